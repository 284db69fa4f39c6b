use Rattle.peer_conn.specs.Words.{put_of, IsSameSeat}
use Rattle.peer_asks.specs.Requests.{PutsEach}
use Rattle.peer_asks.proofs.requester.put_all.Given as goal

abbrev pub invariant-loop : goal.invariant-loop
invariant-loop g l = record {
  next : (goal.iterator-loop g).can_next l.iterator';
  finite : (goal.iterator-loop g).is_finite l.iterator';
  same : IsSameSeat l.fn.seat l.seat;
  puts : PutsEach g.Q.Source.gives l.fn.requests l.requests (put_of l.fn.seat) (put_of l.seat);
}
