use Rattle.std.proofs.Common.{◌≡◌, ◌+◌, ◌++◌, length}
use Rattle.bepd.specs.Received.{kept_records, skipped_records}
use Rattle.bepd.proofs.received.keep.Given as goal

-- what was kept and counted, and what is left to be, is that of all
abbrev pub invariant-loop-info : goal.invariant-loop-info
invariant-loop-info l = record {
  records : l.records.items ++ kept_records l.files.items ≡ kept_records l.fn.files;
  count : l.skipped + length (skipped_records l.files.items) ≡ l.fn.skipped + length (skipped_records l.fn.files);
}

abbrev pub decreases-loop-info : goal.decreases-loop-info
decreases-loop-info l = length l.files.items
