-- The safe names before are listed.
use Rattle.file_store.specs.Maps.{found_at}
use Rattle.file_store.proofs.ListingLemmas.{IsListed}
use Rattle.file_store.proofs.name_map.NameMap+Node.list.Given as goal

abbrev pub invariant-loop-text : goal.invariant-loop-text
invariant-loop-text l = IsListed (found_at l.self) l.text-iterator l.entries.items
