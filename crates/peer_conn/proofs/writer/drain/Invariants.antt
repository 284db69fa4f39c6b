use Rattle.std.proofs.Common.{◌≡◌, []}
use Rattle.peer_conn.specs.Words.{taken_of, IsSameTaker}
use Rattle.peer_conn.specs.Sending.{HasWritten}
use Rattle.peer_conn.proofs.writer.drain.Given as goal

abbrev pub invariant-loop : goal.invariant-loop
invariant-loop g l = record {
  next : (goal.iterator-loop g).can_next l.iterator';
  finite : (goal.iterator-loop g).is_finite l.iterator';
  same : IsSameTaker l.fn.taker l.taker;
  empty : l.buffer.items ≡ [];
  written : HasWritten (taken_of l.fn.taker) (taken_of l.taker) [] (g.W.Write.contents l.fn.writer) (g.W.Write.contents l.writer);
}
