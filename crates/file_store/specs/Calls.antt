-- What each call of a store does: the tree before, the answer, the tree after (own rule). `fails` says that the store
-- may return `StoreFault` for a reason outside the tree, and may then have done the call, or a part of it.
use Rattle.std.specs.Prelude.{bytes_eq, ◌≡◌, ◌⊎◌, ⊤, ℕ, ◌-◌, true, false, List, [], min, take, drop, length, Option, Some, None, unwrap_or, Result, Ok, Err, IfOk, IfErr, IsSome, IsNone}
use Rattle.file_store.specs.declared.node.Node.{Node}
use Rattle.file_store.specs.declared.node.Node.TheVariants.{Directory, File}
use Rattle.file_store.specs.declared.refusal.StoreRefusal.{StoreRefusal}
use Rattle.file_store.specs.declared.refusal.StoreRefusal.TheVariants.{StoreFault, NotEmpty, BadParent, OutOfMemory}
use Rattle.file_store.specs.declared.node.Listing.{Listing}
use Rattle.file_store.specs.declared.node.Stat.{Stat}
use Rattle.file_store.specs.declared.node.Stat.TheVariants as stat
use Rattle.file_store.specs.Asked.{Call, Value, ListAll, StatAt, ReadAt, MakeTemp, WriteAt, CommitTemp, DropTemp, Rename, Remove, MakeDir, RemoveDir}
use Rattle.file_store.specs.Contents.{overwritten}
use Rattle.file_store.specs.Listings.{IsListing}
use Rattle.file_store.specs.Maps.{put_at}
use Rattle.file_store.specs.Names.{Name, is_parent}
use Rattle.file_store.specs.Trees.{Tree, with_parents, bytes_of, is_file, is_directory}

-- a parent of the name is a file
abbrev pub HasBadParent : Tree → Name → Type 0
HasBadParent t n = (p : Name) × (is_parent p n ≡ true) × (is_file (t.names p) ≡ true)

-- the directory has an entry
abbrev pub HasEntries : Tree → Name → Type 0
HasEntries t n = (q : Name) × (is_parent n q ≡ true) × (IsSome (t.names q) ⊎ IsSome (t.temps q))

-- no refusal of the call has a reason
pub record IsAllowed (refused : StoreRefusal → Type 0) : Type 0 where
  pub fault : ¬ (refused StoreFault)
  pub empty : ¬ (refused NotEmpty)
  pub parents : ¬ (refused BadParent)

-- a call that is done makes `done` of the tree, and one that is refused has a reason for the refusal and changes nothing;
-- a store that fails may leave any tree that is `partly` done
abbrev pub Answers : Type 0 → Type 0 → (StoreRefusal → Type 0) → Tree → Tree → Result (Unit {0}) StoreRefusal → Tree → Type 0
Answers fails partly refused old done (Ok _) new = IsAllowed refused × (new ≡ done)
Answers fails partly refused old done (Err refusal) new =
    (refused refusal × (new ≡ old)) ⊎ (fails × (refusal ≡ StoreFault) × partly)

-- done, or not at all
abbrev pub IsWhole : (StoreRefusal → Type 0) → Tree → Tree → Tree → Type 0
IsWhole refused old done new = (new ≡ old) ⊎ (IsAllowed refused × (new ≡ done))

-- `list` returns the listing of what is there
pub record Lists (fails : Type 0) (old : Tree) (result : Result Listing StoreRefusal) (new : Tree) : Type 0 where
  pub value : IfOk result (λ listing. IsListing old.names listing)
  pub failed : IfErr result (λ refusal. refusal ≡ StoreFault → fails)
  pub kept : new ≡ old

-- `stat` returns what is at the name
abbrev pub stat_of : Option Node → Stat
stat_of None = stat.Missing
stat_of (Some Directory) = stat.Directory
stat_of (Some (File bytes modified)) = stat.File (length bytes) modified

pub record Stats (fails : Type 0) (old : Tree) (n : Name) (result : Result Stat StoreRefusal) (new : Tree) : Type 0 where
  pub value : IfOk result (λ s. s ≡ stat_of (old.names n))
  pub failed : IfErr result (λ refusal. refusal ≡ StoreFault → fails)
  pub kept : new ≡ old

-- `read_at` gives bytes of the file from the offset on: none only where there are none or the buffer is empty
pub record Reads (fails : Type 0) (old : Tree) (n : Name) (offset : ℕ) (before after : List ℕ) (result : Result ℕ StoreRefusal) (new : Tree) : Type 0 where
  pub bytes : IfOk result (λ k. take k after ≡ take k (drop offset (bytes_of (old.names n))))
  pub rest : IfOk result (λ k. drop k after ≡ drop k before)
  pub none : IfOk result (λ k. k ≡ 0 → min (length before) (length (bytes_of (old.names n)) - offset) ≡ 0)
  pub failed : IfErr result (λ refusal. refusal ≡ StoreFault → fails)
  pub kept : new ≡ old

-- nothing but the temporary file of the name changes
pub record ChangesTemp (old : Tree) (n : Name) (new : Tree) : Type 0 where
  pub names : new.names ≡ old.names
  pub temps : (q : Name) → bytes_eq n q ≡ false → new.temps q ≡ old.temps q

-- nothing but that, and missing parents that are made
pub record ChangesTempAndParents (old : Tree) (n : Name) (new : Tree) : Type 0 where
  pub names : (q : Name) → (new.names q ≡ old.names q) ⊎ (new.names q ≡ with_parents n old.names q)
  pub temps : (q : Name) → bytes_eq n q ≡ false → new.temps q ≡ old.temps q

-- `make_temp` makes missing parents and an empty temporary file, in place of one that is there
abbrev pub temp_made : Tree → Name → Tree
temp_made old n = record { names = with_parents n old.names; temps = put_at n (Some []) old.temps }

abbrev pub MakeTempRefused : Tree → Name → StoreRefusal → Type 0
MakeTempRefused t n StoreFault = ⊥
MakeTempRefused t n NotEmpty = ⊥
MakeTempRefused t n BadParent = HasBadParent t n
MakeTempRefused t n OutOfMemory = ⊤

abbrev pub MakesTemp : Type 0 → Tree → Name → Result (Unit {0}) StoreRefusal → Tree → Type 0
MakesTemp fails old n result new =
    Answers fails (ChangesTempAndParents old n new) (MakeTempRefused old n) old (temp_made old n) result new

-- `write_at` writes to the temporary file
abbrev pub temp_written : Tree → Name → ℕ → List ℕ → Tree
temp_written old n offset piece = record {
  names = old.names;
  temps = put_at n (Some (overwritten (unwrap_or (old.temps n) []) offset piece)) old.temps;
}

abbrev pub WriteRefused : Tree → Name → StoreRefusal → Type 0
WriteRefused t n StoreFault = IsNone (t.temps n)
WriteRefused t n NotEmpty = ⊥
WriteRefused t n BadParent = ⊥
WriteRefused t n OutOfMemory = ⊤

abbrev pub Writes : Type 0 → Tree → Name → ℕ → List ℕ → Result (Unit {0}) StoreRefusal → Tree → Type 0
Writes fails old n offset piece result new =
    Answers fails (ChangesTemp old n new) (WriteRefused old n) old (temp_written old n offset piece) result new

-- `commit_temp` puts the temporary file in place of a file or of nothing
abbrev pub committed : Tree → Name → ℕ → Tree
committed old n modified = record {
  names = put_at n (Some (File (unwrap_or (old.temps n) []) modified)) old.names;
  temps = put_at n None old.temps;
}

abbrev pub CommitRefused : Tree → Name → StoreRefusal → Type 0
CommitRefused t n StoreFault = IsNone (t.temps n) ⊎ (is_directory (t.names n) ≡ true)
CommitRefused t n NotEmpty = ⊥
CommitRefused t n BadParent = ⊥
CommitRefused t n OutOfMemory = ⊤

-- the store chooses the file's time
abbrev pub Commits : Type 0 → Tree → Name → Result (Unit {0}) StoreRefusal → Tree → Type 0
Commits fails old n result new = (modified : ℕ) ×
    Answers fails (IsWhole (CommitRefused old n) old (committed old n modified) new) (CommitRefused old n) old (committed old n modified) result new

-- `drop_temp` removes the temporary file, if there is one
abbrev pub temp_dropped : Tree → Name → Tree
temp_dropped old n = record { names = old.names; temps = put_at n None old.temps }

abbrev pub DropRefused : StoreRefusal → Type 0
DropRefused StoreFault = ⊥
DropRefused NotEmpty = ⊥
DropRefused BadParent = ⊥
DropRefused OutOfMemory = ⊤

abbrev pub Drops : Type 0 → Tree → Name → Result (Unit {0}) StoreRefusal → Tree → Type 0
Drops fails old n result new =
    Answers fails (IsWhole DropRefused old (temp_dropped old n) new) DropRefused old (temp_dropped old n) result new

-- `rename` moves a file to where nothing is, in a directory that is there
abbrev pub renamed : Tree → Name → Name → Tree
renamed old from to = record { names = put_at to (old.names from) (put_at from None old.names); temps = old.temps }

abbrev pub HasMissingParent : Tree → Name → Type 0
HasMissingParent t n = (p : Name) × (is_parent p n ≡ true) × IsNone (t.names p)

abbrev pub RenameRefused : Tree → Name → Name → StoreRefusal → Type 0
RenameRefused t from to StoreFault =
    (¬ (HasBadParent t to)) × ((is_file (t.names from) ≡ false) ⊎ IsSome (t.names to) ⊎ HasMissingParent t to)
RenameRefused t from to NotEmpty = ⊥
RenameRefused t from to BadParent = HasBadParent t to
RenameRefused t from to OutOfMemory = ⊤

abbrev pub Renames : Type 0 → Tree → Name → Name → Result (Unit {0}) StoreRefusal → Tree → Type 0
Renames fails old from to result new =
    Answers fails (IsWhole (RenameRefused old from to) old (renamed old from to) new) (RenameRefused old from to) old (renamed old from to) result new

-- `remove` removes a file
abbrev pub removed : Tree → Name → Tree
removed old n = record { names = put_at n None old.names; temps = old.temps }

abbrev pub RemoveRefused : Tree → Name → StoreRefusal → Type 0
RemoveRefused t n StoreFault = is_file (t.names n) ≡ false
RemoveRefused t n NotEmpty = ⊥
RemoveRefused t n BadParent = ⊥
RemoveRefused t n OutOfMemory = ⊤

abbrev pub Removes : Type 0 → Tree → Name → Result (Unit {0}) StoreRefusal → Tree → Type 0
Removes fails old n result new =
    Answers fails (IsWhole (RemoveRefused old n) old (removed old n) new) (RemoveRefused old n) old (removed old n) result new

-- `make_dir` makes a directory where nothing is, and missing parents
abbrev pub dir_made : Tree → Name → Tree
dir_made old n = record { names = put_at n (Some Directory) (with_parents n old.names); temps = old.temps }

-- nothing but the directory and missing parents is made
pub record MakesSome (old : Tree) (n : Name) (new : Tree) : Type 0 where
  pub names : (q : Name) → (new.names q ≡ old.names q) ⊎ (new.names q ≡ (dir_made old n).names q)
  pub temps : new.temps ≡ old.temps

abbrev pub MakeDirRefused : Tree → Name → StoreRefusal → Type 0
MakeDirRefused t n StoreFault = IsSome (t.names n)
MakeDirRefused t n NotEmpty = ⊥
MakeDirRefused t n BadParent = HasBadParent t n
MakeDirRefused t n OutOfMemory = ⊤

abbrev pub MakesDir : Type 0 → Tree → Name → Result (Unit {0}) StoreRefusal → Tree → Type 0
MakesDir fails old n result new =
    Answers fails (MakesSome old n new) (MakeDirRefused old n) old (dir_made old n) result new

-- `remove_dir` removes a directory without entries
abbrev pub RemoveDirRefused : Tree → Name → StoreRefusal → Type 0
RemoveDirRefused t n StoreFault = is_directory (t.names n) ≡ false
RemoveDirRefused t n NotEmpty = (is_directory (t.names n) ≡ true) × HasEntries t n
RemoveDirRefused t n BadParent = ⊥
RemoveDirRefused t n OutOfMemory = ⊤

abbrev pub RemovesDir : Type 0 → Tree → Name → Result (Unit {0}) StoreRefusal → Tree → Type 0
RemovesDir fails old n result new =
    Answers fails (IsWhole (RemoveDirRefused old n) old (removed old n) new) (RemoveDirRefused old n) old (removed old n) result new

-- what a call does to the tree
abbrev pub Does : Type 0 → Tree → (call : Call) → Result (Value call) StoreRefusal → Tree → Type 0
Does fails old ListAll result new = Lists fails old result new
Does fails old (StatAt n) result new = Stats fails old n result new
Does fails old (ReadAt n offset before after) result new = Reads fails old n offset before after result new
Does fails old (MakeTemp n) result new = MakesTemp fails old n result new
Does fails old (WriteAt n offset piece) result new = Writes fails old n offset piece result new
Does fails old (CommitTemp n) result new = Commits fails old n result new
Does fails old (DropTemp n) result new = Drops fails old n result new
Does fails old (Rename from to) result new = Renames fails old from to result new
Does fails old (Remove n) result new = Removes fails old n result new
Does fails old (MakeDir n) result new = MakesDir fails old n result new
Does fails old (RemoveDir n) result new = RemovesDir fails old n result new
