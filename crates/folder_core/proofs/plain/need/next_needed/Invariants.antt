use Rattle.std.proofs.Common.{◌≡◌, ◌≤◌, length}
use Rattle.folder_core.specs.Plain.{Rises}
use Rattle.folder_core.specs.PlainReads.{needed_names}
use Rattle.folder_core.proofs.plain.need.next_needed.Given as goal

abbrev pub invariant-loop-first : goal.invariant-loop-first
invariant-loop-first l = record {
  needed : needed_names l.device l.rest ≡ needed_names l.device l.fn.entries;
  rises : Rises l.rest;
  no_more : length l.rest ≤ length l.fn.entries;
}

abbrev pub decreases-loop-first : goal.decreases-loop-first
decreases-loop-first l = length l.rest
