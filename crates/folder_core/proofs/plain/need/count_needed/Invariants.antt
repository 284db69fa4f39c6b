use Rattle.std.proofs.Common.{◌≡◌, ◌+◌, ◌≤◌, length}
use Rattle.folder_core.specs.Plain.{Rises}
use Rattle.folder_core.specs.PlainReads.{needed_names}
use Rattle.folder_core.proofs.plain.need.count_needed.Given as goal

abbrev pub invariant-loop-others : goal.invariant-loop-others
invariant-loop-others l = record {
  counted : l.count + length (needed_names l.device l.rest) ≡ length (needed_names l.device l.fn.entries);
  rises : Rises l.rest;
  fits : l.count + length l.rest ≤ length l.fn.entries;
}

abbrev pub decreases-loop-others : goal.decreases-loop-others
decreases-loop-others l = length l.rest
