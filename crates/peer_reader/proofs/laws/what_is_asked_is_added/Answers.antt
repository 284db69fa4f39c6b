use Rattle.std.proofs.Common.{ℕ, ◌+◌, List, [], ◌∷◌, filter}
use Rattle.folder_calls.specs.Adds.{Adds, Asked, Asks}
use Rattle.folder_calls.specs.Shared.{CallerView}
use Rattle.folder_core.specs.Steps.{is_accepted}
use Rattle.peer_reader.specs.Hears.{AddsEach, AskedOf, AsksEach, asked_at}
use Rattle.peer_reader.specs.declared.folder.ReaderFolder.{ReaderFolder}
use Rattle.peer_reader.proofs.laws.what_is_asked_is_added.Goals as goal

module _ (law : (asked : List Asked) (old new : CallerView) → Asks old asked new → Adds old (filter (λ m. is_accepted m.1) asked) new)
    {W F : Type 0} (view : W → CallerView) (folder : W → F) where
  each : (k : ℕ) (asked : List AskedOf) (olds news : List (ReaderFolder W)) → AsksEach view folder k asked olds news → AddsEach view folder k asked olds news
  each k asked [] [] e = tt
  each k asked (f ∷ fs) [] e = absurd e
  each k asked [] (g ∷ gs) e = absurd e
  each k asked (f ∷ fs) (g ∷ gs) e = (law (asked_at k asked) (view f.calls) (view g.calls) e.0.1, each (k + 1) asked fs gs e.1)

pub returns : goal.returns
returns g c = each c.changes_are_asked_in_order.ensures.adds _ _
