-- What a pull does to the store, by the answer that it comes to (own rule).
use Rattle.std.specs.Prelude.{◌&&◌, ◌||◌, IsTrue, bytes_eq, ◌≡◌, ◌≢◌, ◌⊎◌, ◌∷◌, ⊤, ℕ, Bool, true, false, List, ℤ, Option, Some, None, IsSome, Result, IfOk}
use Rattle.file_store.specs.Asked.{Call, Value, DropTemp}
use Rattle.file_store.specs.Calls.{HasBadParent, HasEntries}
use Rattle.file_store.specs.Names.{Name}
use Rattle.file_store.specs.Trees.{Tree}
use Rattle.file_store.specs.declared.node.Node.{Node}
use Rattle.file_store.specs.declared.refusal.StoreRefusal.{StoreRefusal}
use Rattle.folder_core.specs.Steps.{is_copy_due}
use Rattle.folder_core.specs.declared.pull_info.PullInfo.{PullInfo}
use Rattle.folder_core.specs.declared.answer.Answer.TheVariants.{Begun}
use Rattle.folder_core.specs.declared.change.Change.TheVariants.{BeginPull}
use Rattle.folder_calls.specs.Adds.{Asked}
use Rattle.folder_calls.specs.Shared.{CallerView, Gets}
use Rattle.sync_pull.specs.Chains.{AsksAndSees}
use Rattle.sync_pull.specs.Copies.{IsMoveRefused, TrimsCopies}
use Rattle.sync_pull.specs.Ends.{Ends, IsNotBegun, enters}
use Rattle.sync_pull.specs.Plans.{copy_name}
use Rattle.sync_names.specs.Refusal.{refusal}
use Rattle.sync_record.specs.Assemblies.{is_plain}
use Rattle.sync_record.specs.Records.{FileRecord, is_live_file}
use Rattle.sync_record.specs.Validity.{is_valid}
use Rattle.sync_pull.specs.Faults.{FailsFor}
use Rattle.sync_pull.specs.Putting.{AreUnlike, IsKeptOrMade, standing_of}
use Rattle.sync_pull.specs.Standing.{StandsAs}
use Rattle.sync_pull.specs.declared.answer.PullAnswer.{PullAnswer}
use Rattle.sync_pull.specs.declared.answer.PullAnswer.TheVariants.{Done, Refused, Failed}
use Rattle.sync_pull.specs.declared.answer.PullFailure.{PullFailure}
use Rattle.sync_pull.specs.declared.answer.PullFailure.TheVariants.{StoreFault, NoSource, LocalChanged, ConflictNameTaken, NotEmpty, BadParent}
use Rattle.sync_pull.specs.declared.commit.Standing.{Standing}
use Rattle.sync_pull.specs.declared.commit.Standing.TheVariants as standing
use Rattle.sync_pull.specs.declared.replace.CopyPlan.{CopyPlan}
use Rattle.sync_pull.specs.declared.replace.CopyPlan.TheVariants.{Due, NotDue}
use Rattle.sync_pull.specs.declared.answer.PullRefusal.TheVariants.{OutOfMemory, Stray}

-- what a pull is begun for: a valid record of a deletion, a directory or a file
abbrev pub IsPullable : FileRecord → Type 0
IsPullable r = IsTrue (is_valid r && (is_plain r || is_live_file r))

-- it is done, and this holds
abbrev pub IfDone : PullAnswer → Type 0 → Type 0
IfDone (Done k) P = P
IfDone result P = ⊤

-- What is at the name is as before, unless the pull was done, or failed in a call of the store, ran out of memory in one
-- or was stray after its commit had been entered.
abbrev pub IsNameKept : PullAnswer → Name → Tree → Tree → Type 0
IsNameKept (Done k) n old new = ⊤
IsNameKept (Refused OutOfMemory) n old new = ⊤
IsNameKept (Refused Stray) n old new = ⊤
IsNameKept (Failed StoreFault) n old new = ⊤
IsNameKept (Failed NotEmpty) n old new = ⊤
IsNameKept (Failed BadParent) n old new = ⊤
IsNameKept result n old new = new.names n ≡ old.names n

-- The last that was asked of the store was to drop the temporary file of the name; where it did so, there is none.
pub record IsDropped {S : Type 0} (gives : S → (call : Call) → Result (Value call) StoreRefusal → S → Type 0) (keeps : Type 0) (n : Name) (temps : Name → Option (List ℕ)) (new : S) : Type 0 where
  pub before : S
  pub answer : Result (Unit {0}) StoreRefusal
  pub asked : gives before (DropTemp n) answer new
  pub gone : keeps → IfOk answer (λ _. temps n ≡ None)

-- the one for a target that is a file, and else the other
abbrev pub IfFile : Standing → Type 0 → Type 0 → Type 0
IfFile standing.File P Q = P
IfFile standing.Directory P Q = Q
IfFile standing.Nothing P Q = Q

-- the temporary file was taken by the commit, or the store was asked to drop it
abbrev pub IsTakenOrDropped : PullAnswer → Type 0 → Type 0 → Type 0
IsTakenOrDropped (Done k) taken dropped = taken
IsTakenOrDropped (Refused Stray) taken dropped = taken ⊎ dropped
IsTakenOrDropped result taken dropped = dropped

-- On entry what the base says was at the name; what the target says is there now, and where a copy is due, what was there
-- is at the name of the copy.
pub record IsPulled (most : ℤ) (moment : ℕ) (n : Name) (t : PullInfo) (old new : Tree) : Type 0 where
  pub stood : StandsAs t.base (old.names n)
  pub there : StandsAs (Some t.target) (new.names n)
  pub copied : is_copy_due most t.base t.target ≡ true → new.names (copy_name n moment t.base) ≡ old.names n

-- what was at the name is there still, or at the name of its copy
abbrev pub IsThereOrCopied : Name → Name → Tree → Tree → Type 0
IsThereOrCopied n copy old new = (new.names n ≡ old.names n) ⊎ (new.names copy ≡ old.names n)

-- what is at the copy's name is as before, or is what was at the name: then a copy was due, and nothing was there
abbrev pub IsCopyFree : Bool → Name → Name → Tree → Tree → Type 0
IsCopyFree due n copy old new =
    bytes_eq n copy ≡ false
    → IsKeptOrMade n copy (old.names copy) (new.names copy)
    ⊎ ((due ≡ true) × (old.names copy ≡ None) × (new.names copy ≡ old.names n))

-- What is at the name is as before; or the commit was entered first, and what the base says was there.
abbrev pub IsEnteredFirst : Name → PullInfo → CallerView → Tree → CallerView → Tree → Type 0
IsEnteredFirst n t old before new after =
    (after.names n ≡ before.names n)
    ⊎ (StandsAs t.base (before.names n) × (rest : List Asked) × AsksAndSees old (enters t ∷ rest) new)

-- nothing changes but what is at the name and at that of its copy, the temporary file, and missing parents, which are made
pub record ChangesNameAndCopy (n copy : Name) (old new : Tree) : Type 0 where
  pub names : (q : Name) → bytes_eq n q ≡ false → bytes_eq copy q ≡ false → IsKeptOrMade n q (old.names q) (new.names q)
  pub temps : (q : Name) → bytes_eq n q ≡ false → new.temps q ≡ old.temps q

-- the one for a pull that is done, and else the other
abbrev pub IfDoneElse : PullAnswer → Type 0 → Type 0 → Type 0
IfDoneElse (Done k) P Q = P
IfDoneElse result P Q = Q

-- older copies are removed after a copy was made in a pull that is done, and else nothing is done
abbrev pub TrimsAfter : CopyPlan → PullAnswer → (Name → Type 0) → Type 0 → Type 0
TrimsAfter NotDue result trims still = still
TrimsAfter (Due None) result trims still = still
TrimsAfter (Due (Some copy)) result trims still = IfDoneElse result (trims copy) still

-- the same, by whether a copy was due
abbrev pub TrimsIfDue : Bool → PullAnswer → Type 0 → Type 0 → Type 0
TrimsIfDue true result trims still = IfDoneElse result trims still
TrimsIfDue false result trims still = still

-- nothing may be at the name: the store refused to move a due copy there or back, a file becomes a directory, or a directory a file
abbrev pub MayBeEmpty : ℤ → ℕ → Name → (Tree → Call → Type 0) → PullInfo → Option Node → Type 0
MayBeEmpty most moment n refused t was =
    ((is_copy_due most t.base t.target ≡ true) × IsMoveRefused refused was n (copy_name n moment t.base))
    ⊎ AreUnlike (standing_of t.base) (standing_of (Some t.target))

-- What is at the name, whatever the answer: what was there, what the target says, or, only where that may be, nothing.
abbrev pub IsOldOrTarget : ℤ → ℕ → Name → (Tree → Call → Type 0) → PullInfo → Tree → Tree → Type 0
IsOldOrTarget most moment n refused t old new =
    (new.names n ≡ old.names n)
    ⊎ (StandsAs (Some t.target) (new.names n) ⊎ (MayBeEmpty most moment n refused t (old.names n) × (new.names n ≡ None)))

-- the name of the copy is not safe, or something is there
abbrev pub HasNoPlace : Name → Tree → Type 0
HasNoPlace copy t = IsSome (refusal copy) ⊎ IsSome (t.names copy)

-- Why a pull that was begun fails, if the store keeps what is written: something else than what the base says was at the name; a due
-- copy has no place; a directory that is to make way has entries; a parent of the name or of the copy's is a file. Of any store: a
-- fault was counted; there is no source.
abbrev pub PullFails : ℤ → ℕ → Name → Type 0 → Type 0 → Type 0 → PullInfo → Tree → Tree → PullFailure → Type 0
PullFails most moment n keeps counted sourceless t old new StoreFault = counted
PullFails most moment n keeps counted sourceless t old new NoSource = sourceless
PullFails most moment n keeps counted sourceless t old new LocalChanged = keeps → StandsAs t.base (old.names n) → ⊥
PullFails most moment n keeps counted sourceless t old new ConflictNameTaken =
    (is_copy_due most t.base t.target ≡ true) × (keeps → HasNoPlace (copy_name n moment t.base) new)
PullFails most moment n keeps counted sourceless t old new NotEmpty =
    keeps → (standing_of t.base ≡ standing.Directory) × (standing_of (Some t.target) ≢ standing.Directory) × HasEntries old n
PullFails most moment n keeps counted sourceless t old new BadParent =
    keeps → HasBadParent old n ⊎ ((is_copy_due most t.base t.target ≡ true) × HasBadParent old (copy_name n moment t.base))

-- Nothing else changes until the pull is done or has failed, and after a pull that is done and made a copy nothing but that older
-- conflict copies are removed.
pub record ChangesAndTrims (most : ℤ) (moment : ℕ) (n : Name) (refused : Tree → Call → Type 0) (t : PullInfo) (result : PullAnswer) (old new : Tree) : Type 0 where
  pub placed : Tree
  pub alone : ChangesNameAndCopy n (copy_name n moment t.base) old placed
  pub trimmed : TrimsIfDue (is_copy_due most t.base t.target) result (TrimsCopies refused most n (copy_name n moment t.base) placed new) (new ≡ placed)

-- What the pull of a ticket's target comes to: what is asked of the folder until it ends, and, if the store keeps what is
-- written, what is done to the store. That a fault was counted, that there is no source, that the temporary file was dropped, and
-- that the store refused a call, is handed in.
pub record Pulls (most : ℤ) (moment : ℕ) (n : Name) (keeps counted sourceless dropped : Type 0) (refused : Tree → Call → Type 0) (t : PullInfo) (result : PullAnswer) (old : CallerView) (before : Tree) (new : CallerView) (after : Tree) : Type 0 where
  pub ends : Ends old t result new
  pub done : keeps → IfDone result (IsPulled most moment n t before after)
  pub reasons : FailsFor (PullFails most moment n keeps counted sourceless t before after) result
  pub kept : keeps → IsNameKept result n before after
  pub left : keeps → IsOldOrTarget most moment n refused t before after
  pub entered : keeps → IsEnteredFirst n t old before new after
  pub saved : keeps → is_copy_due most t.base t.target ≡ true → IsThereOrCopied n (copy_name n moment t.base) before after
  pub free : keeps → IsCopyFree (is_copy_due most t.base t.target) n (copy_name n moment t.base) before after
  pub temporary : IfFile (standing_of (Some t.target)) (IsTakenOrDropped result (keeps → after.temps n ≡ None) dropped) (keeps → after.temps ≡ before.temps)
  pub alone : keeps → ChangesAndTrims most moment n refused t result before after

-- what a pull of a name comes to: it is not begun, and nothing changes; or it is begun, and pulls the ticket's target
abbrev pub Comes : ℤ → ℕ → Name → Type 0 → Type 0 → (FileRecord → CallerView → Type 0) → Type 0 → (Tree → Call → Type 0) → PullAnswer → CallerView → Tree → CallerView → Tree → Type 0
Comes most moment n keeps counted sourceless dropped refused result old before new after =
    (IsNotBegun old n result new × (keeps → after ≡ before))
    ⊎ ((t : PullInfo) × (next : CallerView) × Gets old (BeginPull n) (Begun t) next × Pulls most moment n keeps counted (sourceless t.target next) dropped refused t result next before new after)
