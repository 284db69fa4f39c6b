-- What a pull does to the store (own rule).
use Rattle.std.specs.Prelude.{bytes_eq, ◌≡◌, ◌⊎◌, ℕ, true, false, if◌then◌else◌, List, [], ⊤, Option, Some, None, IsSome, unwrap_or}
use Rattle.file_store.specs.declared.node.Node.{Node}
use Rattle.file_store.specs.declared.node.Node.TheVariants.{Directory, File}
use Rattle.file_store.specs.Calls.{CommitRefused, MakeDirRefused, RemoveDirRefused, RemoveRefused, RenameRefused, removed, renamed}
use Rattle.file_store.specs.declared.refusal.StoreRefusal.{StoreRefusal}
use Rattle.file_store.specs.declared.refusal.StoreRefusal.TheVariants as refused
use Rattle.file_store.specs.Names.{Name, is_parent}
use Rattle.file_store.specs.Trees.{Tree}
use Rattle.sync_record.specs.Records.{FileRecord, kind_of}
use Rattle.sync_record.specs.declared.kind.Kind.{Kind}
use Rattle.sync_record.specs.declared.kind.Kind.TheVariants as kind
use Rattle.sync_pull.specs.declared.commit.Standing.{Standing}
use Rattle.sync_pull.specs.declared.commit.Standing.TheVariants as standing

-- what is at a name is as before, or is a directory that was made as a missing parent of another
abbrev pub IsKeptOrMade : Name → Name → Option Node → Option Node → Type 0
IsKeptOrMade n q old new = (new ≡ old) ⊎ ((is_parent q n ≡ true) × (old ≡ None) × (new ≡ Some Directory))

-- nothing changes but what is at the name, its temporary file, and missing parents, which are made
pub record ChangesNameAlone (n : Name) (old new : Tree) : Type 0 where
  pub names : (q : Name) → bytes_eq n q ≡ false → IsKeptOrMade n q (old.names q) (new.names q)
  pub temps : (q : Name) → bytes_eq n q ≡ false → new.temps q ≡ old.temps q

-- nothing changes but the temporary file of the name, and missing parents, which are made
pub record WritesTempAlone (n : Name) (old new : Tree) : Type 0 where
  pub alone : ChangesNameAlone n old new
  pub name : new.names n ≡ old.names n

-- what a record says is at its name
abbrev pub standing_by : Kind → Standing
standing_by kind.File = standing.File
standing_by kind.Directory = standing.Directory
standing_by kind.Other = standing.Nothing

abbrev pub standing_of : Option FileRecord → Standing
standing_of None = standing.Nothing
standing_of (Some r) = if r.deleted then standing.Nothing else standing_by (kind_of r)

-- this is there
abbrev pub IsStanding : Standing → Option Node → Type 0
IsStanding standing.Nothing there = there ≡ None
IsStanding standing.Directory there = there ≡ Some Directory
IsStanding standing.File there = (bytes : List ℕ) × (modified : ℕ) × (there ≡ Some (File bytes modified))

-- what was wanted is in place: the file that was its temporary file, a directory, or nothing
abbrev pub IsInPlace : Standing → Tree → Name → Tree → Type 0
IsInPlace standing.File old n new = (modified : ℕ) × (new.names n ≡ Some (File (unwrap_or (old.temps n) []) modified))
IsInPlace standing.Directory old n new = new.names n ≡ Some Directory
IsInPlace standing.Nothing old n new = new.names n ≡ None

-- what is of another kind than what is wanted is gone, and nothing else changed
abbrev pub IsGone : Tree → Name → Tree → Type 0
IsGone old n new = (new.names n ≡ None) × (new.temps ≡ old.temps)

abbrev pub IsCleared : Standing → Standing → Tree → Name → Tree → Type 0
IsCleared standing.File standing.Directory old n new = IsGone old n new
IsCleared standing.File standing.Nothing old n new = IsGone old n new
IsCleared standing.Directory standing.File old n new = IsGone old n new
IsCleared standing.Directory standing.Nothing old n new = IsGone old n new
IsCleared there wanted old n new = new ≡ old

-- the file was moved to the name of its copy, where nothing was
abbrev pub IsCopied : Option Name → Tree → Name → Tree → Type 0
IsCopied None old n new = ⊥
IsCopied (Some copy) old n new = (old.names copy ≡ None) × (new ≡ renamed old n copy)

-- there is no name for the copy, or something is at it
abbrev pub IsTaken : Option Name → Tree → Type 0
IsTaken None t = ⊤
IsTaken (Some copy) t = IsSome (t.names copy)

-- a call is refused for one of its reasons, or the store fails
abbrev pub MayRefuse : Type 0 → (StoreRefusal → Type 0) → StoreRefusal → Type 0
MayRefuse fails reasons refusal = reasons refusal ⊎ (fails × (refusal ≡ refused.StoreFault))

-- why the table of kinds is not gone through: the reasons of its calls
abbrev pub PutRefused : Type 0 → Standing → Standing → Tree → Name → StoreRefusal → Type 0
PutRefused fails standing.Nothing standing.Nothing t n refusal = ⊥
PutRefused fails standing.Nothing standing.File t n refusal = MayRefuse fails (CommitRefused t n) refusal
PutRefused fails standing.Nothing standing.Directory t n refusal = MayRefuse fails (MakeDirRefused t n) refusal
PutRefused fails standing.File standing.Nothing t n refusal = MayRefuse fails (RemoveRefused t n) refusal
PutRefused fails standing.File standing.File t n refusal = MayRefuse fails (CommitRefused t n) refusal
PutRefused fails standing.File standing.Directory t n refusal =
    MayRefuse fails (RemoveRefused t n) refusal ⊎ MayRefuse fails (MakeDirRefused (removed t n) n) refusal
PutRefused fails standing.Directory standing.Nothing t n refusal = MayRefuse fails (RemoveDirRefused t n) refusal
PutRefused fails standing.Directory standing.File t n refusal =
    MayRefuse fails (RemoveDirRefused t n) refusal ⊎ MayRefuse fails (CommitRefused (removed t n) n) refusal
PutRefused fails standing.Directory standing.Directory t n refusal = ⊥

-- and why nothing makes way
abbrev pub ClearRefused : Type 0 → Standing → Standing → Tree → Name → StoreRefusal → Type 0
ClearRefused fails standing.File standing.Directory t n refusal = MayRefuse fails (RemoveRefused t n) refusal
ClearRefused fails standing.File standing.Nothing t n refusal = MayRefuse fails (RemoveRefused t n) refusal
ClearRefused fails standing.Directory standing.File t n refusal = MayRefuse fails (RemoveDirRefused t n) refusal
ClearRefused fails standing.Directory standing.Nothing t n refusal = MayRefuse fails (RemoveDirRefused t n) refusal
ClearRefused fails there wanted t n refusal = ⊥

-- a file is to become a directory, or a directory a file
abbrev pub AreUnlike : Standing → Standing → Type 0
AreUnlike standing.File standing.Directory = ⊤
AreUnlike standing.Directory standing.File = ⊤
AreUnlike there wanted = ⊥

-- What is left at the name: what was there, what was wanted, or, only where it may be so, nothing.
abbrev pub IsLeft : Type 0 → Standing → Tree → Name → Tree → Type 0
IsLeft emptied wanted old n new =
    (new.names n ≡ old.names n) ⊎ (IsInPlace wanted old n new ⊎ (emptied × (new.names n ≡ None)))

-- the temporary file is gone where a file was wanted
abbrev pub IsTempTaken : Standing → Name → Tree → Type 0
IsTempTaken standing.File n new = new.temps n ≡ None
IsTempTaken standing.Directory n new = ⊤
IsTempTaken standing.Nothing n new = ⊤

-- and no temporary file changes where none was
abbrev pub AreTempsKept : Standing → Tree → Tree → Type 0
AreTempsKept standing.File old new = ⊤
AreTempsKept standing.Directory old new = new.temps ≡ old.temps
AreTempsKept standing.Nothing old new = new.temps ≡ old.temps

-- Why a file is not moved to the name of its copy: nothing is there and the store refuses to move it, or the store fails.
abbrev pub CopyRefused : Type 0 → Tree → Name → Option Name → StoreRefusal → Type 0
CopyRefused fails t n None refusal = ⊥
CopyRefused fails t n (Some copy) refused.StoreFault = fails ⊎ ((t.names copy ≡ None) × RenameRefused t n copy refused.StoreFault)
CopyRefused fails t n (Some copy) refused.NotEmpty = ⊥
CopyRefused fails t n (Some copy) refused.BadParent = RenameRefused t n copy refused.BadParent
CopyRefused fails t n (Some copy) refused.OutOfMemory = ⊤
