-- No parent that the loop has passed is a file.
use Rattle.std.proofs.Common.{length}
use denote.Text.{Utf8}
use denote.Shadow.{shadow}
use Rattle.file_store.specs.Maps.{found_at}
use Rattle.file_store.proofs.BetweenLemmas.{IsLooking}
use Rattle.file_store.proofs.missing.has_bad_parent.Given as goal

abbrev pub invariant-loop-parent : goal.invariant-loop-parent
invariant-loop-parent l = shadow (Utf8 l.rest) × IsLooking (found_at l.names) l.name l.rest

abbrev pub decreases-loop-parent : goal.decreases-loop-parent
decreases-loop-parent l = length l.rest
