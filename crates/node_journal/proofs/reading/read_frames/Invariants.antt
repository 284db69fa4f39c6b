use Rattle.std.proofs.Common.{◌-◌, ◌≤◌, drop, length}
use Rattle.node_journal.specs.declared.kept.KeptFrames.{KeptFrames}
use Rattle.node_journal.specs.Format.{header_bytes, header_len}
use Rattle.node_journal.specs.Reading.{Reads}
use Rattle.node_journal.specs.Runs.{joined}
use Rattle.node_journal.proofs.reading.read_frames.Given as goal

abbrev pub invariant-loop-run : goal.invariant-loop-run
invariant-loop-run l = record {
  reads : (k : KeptFrames) → Reads (header_bytes l.header) l.run.at (drop l.run.at l.bytes) k → Reads (header_bytes l.header) header_len (drop header_len l.bytes) (joined l.run k);
  count : l.run.count ≤ length l.run.frames.items;
  from : header_len ≤ l.run.at;
  within : l.run.at ≤ length l.bytes;
}

abbrev pub decreases-loop-run : goal.decreases-loop-run
decreases-loop-run l = length l.bytes - l.run.at
