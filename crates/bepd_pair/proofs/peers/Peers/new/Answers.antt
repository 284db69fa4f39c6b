use Rattle.std.proofs.Common.{rules, ◌≡◌}
use Rattle.bepd_pair.proofs.peers.Peers.new.Goals as goal

pub returns : goal.returns
returns c =
    let none : c.unwrap-moment.result ≡ 0 = search rules in
    record { a = c.in_ok-new.ensures; b = c.in_ok-new-2.ensures; moment = none }
