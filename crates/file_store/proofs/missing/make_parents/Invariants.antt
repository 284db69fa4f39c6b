-- The parents that the loop has passed were missing, and are made.
use Rattle.std.proofs.Common.{length}
use denote.Text.{Utf8}
use denote.Shadow.{shadow}
use Rattle.file_store.specs.Maps.{found_at}
use Rattle.file_store.proofs.BetweenLemmas.{IsMaking}
use Rattle.file_store.proofs.missing.make_parents.Given as goal

abbrev pub invariant-loop-parent : goal.invariant-loop-parent
invariant-loop-parent l = shadow (Utf8 l.rest) × IsMaking (found_at l.initial.names) (found_at l.names) l.name l.rest

abbrev pub decreases-loop-parent : goal.decreases-loop-parent
decreases-loop-parent l = length l.rest
