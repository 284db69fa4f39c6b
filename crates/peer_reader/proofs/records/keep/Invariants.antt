use Rattle.std.proofs.Common.{◌≡◌, ◌++◌, length}
use Rattle.peer_reader.specs.Records.{kept_records}
use Rattle.peer_reader.proofs.records.keep.Given as goal

-- what was kept, and what is left to be, is that of all
abbrev pub invariant-loop-info : goal.invariant-loop-info
invariant-loop-info l = l.records.items ++ kept_records l.files.items ≡ kept_records l.fn.files

abbrev pub decreases-loop-info : goal.decreases-loop-info
decreases-loop-info l = length l.files.items
