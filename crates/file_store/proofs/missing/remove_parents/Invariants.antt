-- The parents that the loop has passed are removed.
use Rattle.std.proofs.Common.{◌≡◌, length, None}
use denote.Text.{Utf8}
use denote.Shadow.{shadow}
use Rattle.file_store.specs.Maps.{found_at}
use Rattle.file_store.specs.Names.{Name}
use Rattle.file_store.proofs.BetweenLemmas.{Reaches, between}
use Rattle.file_store.proofs.missing.remove_parents.Given as goal

abbrev pub invariant-loop-rest : goal.invariant-loop-rest
invariant-loop-rest l =
    shadow (Utf8 l.rest) × Reaches l.rest l.name × Reaches l.top l.rest
    × ((q : Name) → found_at l.names q ≡ between l.name l.rest None (found_at l.initial.names) q)

abbrev pub decreases-loop-rest : goal.decreases-loop-rest
decreases-loop-rest l = length l.rest
