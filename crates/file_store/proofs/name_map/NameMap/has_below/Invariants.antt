-- What is below the directory is among the entries that are left.
use Rattle.std.proofs.Common.{◌≡◌, true}
use Rattle.file_store.specs.Maps.{found_at}
use Rattle.file_store.specs.Names.{Name, is_parent}
use Rattle.file_store.proofs.ListingLemmas.{left_at}
use Rattle.file_store.proofs.name_map.NameMap.has_below.Given as goal

abbrev pub invariant-loop-name : goal.invariant-loop-name
invariant-loop-name g l =
    (goal.iterator-loop-name g).can_next l.name-iterator × (goal.iterator-loop-name g).is_finite l.name-iterator
    × ((q : Name) → is_parent l.dir q ≡ true → found_at l.self q ≡ left_at l.name-iterator q)
