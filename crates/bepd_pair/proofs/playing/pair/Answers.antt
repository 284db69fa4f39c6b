use Rattle.std.proofs.Common.{inr}
use Rattle.bepd_pair.proofs.playing.pair.Goals as goal

pub returns : goal.returns
returns g c = inr record {
  start = c.in_ok-peers.peers;
  begins = c.in_ok-peers.ensures;
  bytes = c.follow.ensures.follows.0;
  taken = c.follow.ensures.follows.1;
  follows = c.follow.ensures.follows.2;
  whole = c.follow.ensures.whole;
}
