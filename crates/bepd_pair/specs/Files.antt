-- What commands do to a peer's files (own rule).
use Rattle.std.specs.Prelude.{◌≡◌, ◌⊎◌, ⊤, ℕ, true, if◌then◌else◌, List, Some, None, IsNone, Result, Ok, Err}
use Rattle.file_store.specs.Calls.{HasBadParent, HasEntries, dir_made}
use Rattle.file_store.specs.Maps.{put_at}
use Rattle.file_store.specs.Names.{Name as AnyName}
use Rattle.file_store.specs.Trees.{Tree, is_directory, is_file, with_parents}
use Rattle.file_store.specs.declared.node.Node.TheVariants.{File}
use Rattle.file_store.specs.declared.refusal.StoreRefusal.{StoreRefusal}
use Rattle.file_store.specs.declared.refusal.StoreRefusal.TheVariants as store
use Rattle.sync_names.specs.Refusal.{refusal}
use Rattle.bepd_pair.specs.declared.refused.Refused.{Refused}
use Rattle.bepd_pair.specs.declared.refused.Refused.TheVariants.{UnknownCommand, Name, OutOfMemory}

-- a file with this text, modified at the moment, missing parents made; and no temporary file of the name
abbrev pub file_put : Tree → AnyName → List ℕ → ℕ → Tree
file_put old n text moment = record {
  names = put_at n (Some (File text moment)) (with_parents n old.names);
  temps = put_at n None old.temps;
}

-- what keeps a file from being put: a directory, or a file in a parent's place
abbrev pub IsNoPlaceForFile : Tree → AnyName → Type 0
IsNoPlaceForFile t n = (is_directory (t.names n) ≡ true) ⊎ HasBadParent t n

-- a directory, missing parents made; one that is there stays
abbrev pub directory_put : Tree → AnyName → Tree
directory_put old n = if is_directory (old.names n) then old else dir_made old n

abbrev pub IsNoPlaceForDirectory : Tree → AnyName → Type 0
IsNoPlaceForDirectory t n = (is_file (t.names n) ≡ true) ⊎ HasBadParent t n

-- nothing is there, or a directory with entries
abbrev pub CannotBeRemoved : Tree → AnyName → Type 0
CannotBeRemoved t n = IsNone (t.names n) ⊎ ((is_directory (t.names n) ≡ true) × HasEntries t n)

-- A change of files under a name. Done, the name is safe, nothing is unfit for it, and the tree is `done`; refused, it changes nothing,
-- and the name is refused, or something is unfit. If out of memory, a part of it may be done.
abbrev pub ChangesFiles : AnyName → Type 0 → Tree → Tree → Result (Unit {0}) Refused → Tree → Type 0
ChangesFiles n unfit old done (Ok _) new = (refusal n ≡ None) × (¬ unfit) × (new ≡ done)
ChangesFiles n unfit old done (Err OutOfMemory) new = ⊤
ChangesFiles n unfit old done (Err UnknownCommand) new = (refusal n ≡ None) × unfit × (new ≡ old)
ChangesFiles n unfit old done (Err (Name fault)) new = (refusal n ≡ Some fault) × (new ≡ old)
ChangesFiles n unfit old done (Err _) new = ⊥

-- the same of a safe name, as the store says it
abbrev pub ChangesStore : Type 0 → Tree → Tree → Result (Unit {0}) StoreRefusal → Tree → Type 0
ChangesStore unfit old done (Ok _) new = (¬ unfit) × (new ≡ done)
ChangesStore unfit old done (Err store.OutOfMemory) new = ⊤
ChangesStore unfit old done (Err _) new = unfit × (new ≡ old)
