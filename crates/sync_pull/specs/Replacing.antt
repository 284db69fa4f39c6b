-- A file, directory or nothing that is replaced by a target (own rule).
use Rattle.std.specs.Prelude.{bytes_eq, ◌≡◌, ◌≢◌, ◌⊎◌, ⊤, ℕ, false, Option, Some, None}
use Rattle.file_store.specs.Asked.{Call}
use Rattle.file_store.specs.Calls.{HasBadParent, HasEntries}
use Rattle.file_store.specs.Names.{Name}
use Rattle.file_store.specs.Trees.{Tree}
use Rattle.file_store.specs.declared.node.Node.{Node}
use Rattle.sync_record.specs.Records.{FileRecord}
use Rattle.sync_pull.specs.Copies.{IsMoveRefused}
use Rattle.sync_pull.specs.Faults.{IsFaultCounted}
use Rattle.sync_pull.specs.Putting.{AreUnlike, IsInPlace, IsKeptOrMade, IsTaken, standing_of}
use Rattle.sync_pull.specs.Standing.{StandsAs}
use Rattle.sync_pull.specs.declared.answer.PullFailure.{PullFailure}
use Rattle.sync_pull.specs.declared.answer.PullFailure.TheVariants.{StoreFault, NoSource, LocalChanged, ConflictNameTaken, NotEmpty, BadParent}
use Rattle.sync_pull.specs.declared.answer.Stop.{Stop}
use Rattle.sync_pull.specs.declared.answer.Stop.TheVariants.{Failed, OutOfMemory}
use Rattle.sync_pull.specs.declared.commit.Standing.{Standing}
use Rattle.sync_pull.specs.declared.commit.Standing.TheVariants as standing
use Rattle.sync_pull.specs.declared.replace.CopyPlan.{CopyPlan}
use Rattle.sync_pull.specs.declared.replace.CopyPlan.TheVariants.{Due, NotDue}

-- a copy is due only of a file
abbrev pub IsOfFile : CopyPlan → Option FileRecord → Type 0
IsOfFile NotDue base = ⊤
IsOfFile (Due copy) base = standing_of base ≡ standing.File

-- a due copy holds what was at the name
abbrev pub IsCopyKept : CopyPlan → Tree → Name → Tree → Type 0
IsCopyKept NotDue old n new = ⊤
IsCopyKept (Due None) old n new = ⊥
IsCopyKept (Due (Some copy)) old n new = new.names copy ≡ old.names n

-- what the base says was at the name, the target is in its place, and a due copy holds what was there
pub record IsReplaced (base : Option FileRecord) (target : FileRecord) (plan : CopyPlan) (n : Name) (old new : Tree) : Type 0 where
  pub stood : StandsAs base (old.names n)
  pub in_place : IsInPlace (standing_of (Some target)) old n new
  pub copied : IsCopyKept plan old n new

-- nothing changed where something else was there, or where the copy had no place
abbrev pub IsUntouched : Stop → Tree → Tree → Type 0
IsUntouched OutOfMemory old new = ⊤
IsUntouched (Failed StoreFault) old new = ⊤
IsUntouched (Failed NoSource) old new = new ≡ old
IsUntouched (Failed LocalChanged) old new = new ≡ old
IsUntouched (Failed ConflictNameTaken) old new = new ≡ old
IsUntouched (Failed NotEmpty) old new = ⊤
IsUntouched (Failed BadParent) old new = ⊤

-- what was at the name is there still, or at the name of a due copy
abbrev pub IsSaved : CopyPlan → Tree → Name → Tree → Type 0
IsSaved NotDue old n new = ⊤
IsSaved (Due None) old n new = new.names n ≡ old.names n
IsSaved (Due (Some copy)) old n new = (new.names n ≡ old.names n) ⊎ (new.names copy ≡ old.names n)

-- what is at the name of a due copy is as before, or is what was at the name, and then nothing was there
abbrev pub IsCopyAlone : CopyPlan → Name → Tree → Tree → Type 0
IsCopyAlone NotDue n old new = ⊤
IsCopyAlone (Due None) n old new = ⊤
IsCopyAlone (Due (Some copy)) n old new =
    bytes_eq n copy ≡ false
    → IsKeptOrMade n copy (old.names copy) (new.names copy) ⊎ ((old.names copy ≡ None) × (new.names copy ≡ old.names n))

-- what is at the name is as before, or what the base says was there
abbrev pub IsOverBase : Option FileRecord → Name → Tree → Tree → Type 0
IsOverBase base n old new = (new.names n ≡ old.names n) ⊎ StandsAs base (old.names n)

-- another name than that of the copy
abbrev pub IsOther : CopyPlan → Name → Type 0
IsOther NotDue q = ⊤
IsOther (Due None) q = ⊤
IsOther (Due (Some copy)) q = bytes_eq copy q ≡ false

-- nothing changes but what is at the name and at that of a due copy, the temporary file, and missing parents, which are made
pub record ChangesAlone (n : Name) (plan : CopyPlan) (old new : Tree) : Type 0 where
  pub names : (q : Name) → bytes_eq n q ≡ false → IsOther plan q → IsKeptOrMade n q (old.names q) (new.names q)
  pub temps : (q : Name) → bytes_eq n q ≡ false → new.temps q ≡ old.temps q

-- a copy is planned that has no name, or at whose name something is
abbrev pub IsCopyTaken : CopyPlan → Tree → Type 0
IsCopyTaken NotDue t = ⊥
IsCopyTaken (Due copy) t = IsTaken copy t

-- a parent of the name of a planned copy is a file
abbrev pub HasBadCopyParent : CopyPlan → Tree → Type 0
HasBadCopyParent NotDue t = ⊥
HasBadCopyParent (Due None) t = ⊥
HasBadCopyParent (Due (Some copy)) t = HasBadParent t copy

-- the copy is planned
abbrev pub IsDue : CopyPlan → Type 0
IsDue NotDue = ⊥
IsDue (Due copy) = ⊤

-- Why a replacement fails, by the trees before and after it and the counts of faults: of a store that keeps what is written,
-- something else is at the name; the copy has no place; a directory that is to make way has entries; a parent of the name or of
-- the copy's is a file.
abbrev pub ReplaceFails : Type 0 → Option FileRecord → FileRecord → CopyPlan → Name → Tree → Tree → ℕ → ℕ → PullFailure → Type 0
ReplaceFails keeps base target plan n old new before after StoreFault = IsFaultCounted before after
ReplaceFails keeps base target plan n old new before after NoSource = ⊥
ReplaceFails keeps base target plan n old new before after LocalChanged = keeps → StandsAs base (old.names n) → ⊥
ReplaceFails keeps base target plan n old new before after ConflictNameTaken = IsDue plan × (keeps → IsCopyTaken plan new)
ReplaceFails keeps base target plan n old new before after NotEmpty =
    keeps → (standing_of base ≡ standing.Directory) × (standing_of (Some target) ≢ standing.Directory) × HasEntries old n
ReplaceFails keeps base target plan n old new before after BadParent = keeps → HasBadParent old n ⊎ HasBadCopyParent plan old

-- Why a copy is not made, or nothing put in the place of the file.
abbrev pub CopiedFails : Type 0 → Option Name → Tree → Tree → ℕ → ℕ → PullFailure → Type 0
CopiedFails keeps copy old new before after StoreFault = IsFaultCounted before after
CopiedFails keeps copy old new before after NoSource = ⊥
CopiedFails keeps copy old new before after LocalChanged = ⊥
CopiedFails keeps copy old new before after ConflictNameTaken = keeps → IsTaken copy new
CopiedFails keeps copy old new before after NotEmpty = keeps → ⊥
CopiedFails keeps copy old new before after BadParent = keeps → HasBadCopyParent (Due copy) old

-- where nothing may be left at the name: a kept file was moved away, and the store refused that or to move it back, or what was there
-- is of another kind than what is wanted
abbrev pub MayEmpty : (Tree → Call → Type 0) → Option Node → Name → CopyPlan → Standing → Standing → Type 0
MayEmpty refused was n NotDue there wanted = AreUnlike there wanted
MayEmpty refused was n (Due None) there wanted = ⊥
MayEmpty refused was n (Due (Some copy)) there wanted = IsMoveRefused refused was n copy
