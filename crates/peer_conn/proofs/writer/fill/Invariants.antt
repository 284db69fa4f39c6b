use Rattle.std.proofs.Common.{[], Some}
use Rattle.peer_conn.specs.Words.{taken_of, IsSameTaker}
use Rattle.peer_conn.specs.Sending.{HasWritten}
use Rattle.peer_conn.proofs.writer.fill.Given as goal

abbrev pub invariant-loop : goal.invariant-loop
invariant-loop g l = record {
  next : (goal.iterator-loop g).can_next l.iterator';
  finite : (goal.iterator-loop g).is_finite l.iterator';
  same : IsSameTaker l.fn.taker l.taker;
  filled : HasWritten (taken_of l.fn.taker) (taken_of l.taker) [] (Some l.fn.buffer.items) (Some l.buffer.items);
}
