-- What a worker's store answers, by the store of the disk below it (own rule). The folder is there where its marker was seen and no other run has it.
use Rattle.std.specs.Prelude.{◌≡◌, ◌⊎◌, ℕ, List, Bool, true, false, IsTrue, Option, Some, None, Result, Ok, Err}
use Rattle.file_dir.specs.declared.marker.LockRefusal.{LockRefusal}
use Rattle.file_dir.specs.declared.marker.LockRefusal.TheVariants as lock
use Rattle.file_store.specs.Asked.{Call, Value, ListAll, StatAt, ReadAt, MakeTemp, WriteAt, CommitTemp, DropTemp, Rename, Remove, MakeDir, RemoveDir}
use Rattle.file_store.specs.declared.node.Stat.TheVariants as stat
use Rattle.file_store.specs.declared.refusal.StoreRefusal.{StoreRefusal}
use Rattle.file_store.specs.declared.refusal.StoreRefusal.TheVariants.{StoreFault, OutOfMemory}

-- It changes what is at a name, or begins to: only where the folder is there.
abbrev pub is_change : Call → Bool
is_change ListAll = false
is_change (StatAt n) = false
is_change (ReadAt n offset before after) = false
is_change (MakeTemp n) = true
is_change (WriteAt n offset piece) = false
is_change (CommitTemp n) = true
is_change (DropTemp n) = false
is_change (Rename from to) = true
is_change (Remove n) = true
is_change (MakeDir n) = true
is_change (RemoveDir n) = true

-- It reads, or prepares what is to be put in place: it may be refused once the node stops.
abbrev pub may_end : Call → Bool
may_end ListAll = true
may_end (StatAt n) = true
may_end (ReadAt n offset before after) = true
may_end (MakeTemp n) = true
may_end (WriteAt n offset piece) = true
may_end (CommitTemp n) = false
may_end (DropTemp n) = false
may_end (Rename from to) = false
may_end (Remove n) = false
may_end (MakeDir n) = false
may_end (RemoveDir n) = false

-- It changes what is at a name: it may be refused while that is not to be changed.
abbrev pub may_hold : Call → Bool
may_hold ListAll = false
may_hold (StatAt n) = false
may_hold (ReadAt n offset before after) = false
may_hold (MakeTemp n) = false
may_hold (WriteAt n offset piece) = false
may_hold (CommitTemp n) = true
may_hold (DropTemp n) = false
may_hold (Rename from to) = true
may_hold (Remove n) = true
may_hold (MakeDir n) = true
may_hold (RemoveDir n) = true

-- The answer says that nothing is at a name, or at none but those that are listed.
abbrev pub tells_absence : (call : Call) → Result (Value call) StoreRefusal → Bool
tells_absence ListAll (Ok listing) = true
tells_absence (StatAt n) (Ok stat.Missing) = true
tells_absence call said = false

-- what is answered where the folder can't be taken
abbrev pub take_refusal : LockRefusal → StoreRefusal
take_refusal lock.InUse = StoreFault
take_refusal lock.StoreFault = StoreFault
take_refusal lock.OutOfMemory = OutOfMemory

-- How the disk answers: a folder is opened by its path, looked at for its marker, and taken.
module _ {S : Type 0} (opens : List ℕ → Result S StoreRefusal → Type 0) where
  -- the disk's store that is at hand, or, where none is, one that is opened now
  abbrev pub IsOpened : List ℕ → Option S → S → Type 0
  IsOpened path None s = opens path (Ok s)
  IsOpened path (Some t) s = s ≡ t

module _ {S : Type 0} (looks : S → Result Bool StoreRefusal → S → Type 0) (takes : S → List ℕ → Result (Unit {0}) LockRefusal → S → Type 0) where
  -- the folder is there: its marker was seen, and then it was taken
  abbrev pub IsThere : List ℕ → S → S → Type 0
  IsThere path s u = (t : S) × looks s (Ok true) t × takes t path (Ok tt) u

  -- it isn't, or that can't be told, and this is answered
  abbrev pub IsAway : List ℕ → S → StoreRefusal → Type 0
  IsAway path s refusal =
      ((t : S) × looks s (Ok false) t × (refusal ≡ StoreFault)) ⊎ ((t : S) × looks s (Err refusal) t)
      ⊎ ((t u : S) × (why : LockRefusal) × looks s (Ok true) t × takes t path (Err why) u × (refusal ≡ take_refusal why))

  -- The answer is what the disk's store said; of what tells an absence only if the folder was there afterwards.
  abbrev pub Passes : Bool → List ℕ → S → {X : Type 0} → Result X StoreRefusal → Result X StoreRefusal → Option S → Type 0
  Passes false path s said answer after = (answer ≡ said) × (after ≡ Some s)
  Passes true path s said answer after =
      ((answer ≡ said) × (u : S) × IsThere path s u × (after ≡ Some u)) ⊎ ((refusal : StoreRefusal) × IsAway path s refusal × (answer ≡ Err refusal) × (after ≡ None))

module _ {S : Type 0} (opens : List ℕ → Result S StoreRefusal → Type 0) (looks : S → Result Bool StoreRefusal → S → Type 0)
    (takes : S → List ℕ → Result (Unit {0}) LockRefusal → S → Type 0) where
  -- it can't be opened, or, before a change, it is away: nothing is called, and it is opened anew the next time
  abbrev pub Refuses : List ℕ → Option S → Bool → StoreRefusal → Option S → Type 0
  Refuses path before change refusal after =
      (((before ≡ None) × opens path (Err refusal)) ⊎ (IsTrue change × (s : S) × IsOpened opens path before s × IsAway looks takes path s refusal))
      × (after ≡ None)

-- and what its store gives
module _ {S : Type 0} (opens : List ℕ → Result S StoreRefusal → Type 0) (looks : S → Result Bool StoreRefusal → S → Type 0)
    (takes : S → List ℕ → Result (Unit {0}) LockRefusal → S → Type 0) (gives : S → (call : Call) → Result (Value call) StoreRefusal → S → Type 0) where
  -- The call was made by the disk's store. Before a change the folder was there.
  abbrev pub Makes : Bool → List ℕ → S → (call : Call) → Result (Value call) StoreRefusal → Option S → Type 0
  Makes true path s call answer after = (t u : S) × IsThere looks takes path s t × gives t call answer u × (after ≡ Some u)
  Makes false path s call answer after =
      (said : Result (Value call) StoreRefusal) × (t : S) × gives s call said t × Passes looks takes (tells_absence call said) path t said answer after

  -- A call of a folder's files: it was made, or refused.
  abbrev pub Answers : List ℕ → Option S → (call : Call) → Result (Value call) StoreRefusal → Option S → Type 0
  Answers path before call answer after =
      ((refusal : StoreRefusal) × (answer ≡ Err refusal) × Refuses opens looks takes path before (is_change call) refusal after)
      ⊎ ((s : S) × IsOpened opens path before s × Makes (is_change call) path s call answer after)

  -- Some calls are refused once the node stops, and others while what is at the name is not to be changed; then nothing is called.
  abbrev pub AnswersOrEnds : Type 0 → Type 0 → List ℕ → Option S → (call : Call) → Result (Value call) StoreRefusal → Option S → Type 0
  AnswersOrEnds ends holds path before call answer after =
      (ends × IsTrue (may_end call) × (answer ≡ Err StoreFault) × (after ≡ before))
      ⊎ (holds × IsTrue (may_hold call) × (answer ≡ Err StoreFault) × (after ≡ before)) ⊎ Answers path before call answer after
