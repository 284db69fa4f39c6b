-- So far the device was asked some times, and gave nothing.
use Rattle.std.proofs.Common.{ℕ}
use Rattle.node_pull.specs.Waits.{GaveNone}
use Rattle.node_pull.proofs.patient.PatientSourceBlockSource.fetch.Given as goal

abbrev pub invariant-loop : goal.invariant-loop
invariant-loop g l = record {
  next : (goal.iterator-loop g).can_next l.iterator';
  finite : (goal.iterator-loop g).is_finite l.iterator';
  asked : (times : ℕ) × GaveNone g.S.BlockSource.gives times l.device l.name l.block l.fn.self.source l.self.source;
}
