-- A folder that several callers share: the history of its changes.
use Rattle.std.specs.Prelude.{bytes_eq, false, ◌++◌, count_by, Contains, option_map, ◌≡◌, ℕ, ◌+◌, ◌≤◌, Bool, ◌&&◌, ◌==◌, nat_lt, if◌then◌else◌, List, [], ◌∷◌, length, filter, fold, IsTrue, ⊤}
use Rattle.std.specs.FinMap.{len}
use Rattle.folder_calls.specs.declared.entry.Entry.{Entry}
use Rattle.sync_record.specs.Assemblies.{IsAssembled}
use Rattle.sync_record.specs.Records.{Name, FileRecord}
use Rattle.folder_core.specs.States.{FolderState, IsFolder, local, local_version}
use Rattle.folder_core.specs.declared.answer.Answer.{Answer}
use Rattle.folder_core.specs.declared.answer.Answer.TheVariants.{Begun, Entered, HistoryFull}
use Rattle.folder_core.specs.declared.change.Change.{Change}
use Rattle.folder_core.specs.declared.change.Change.TheVariants.{Finish, GiveUp, Abort}
use Rattle.folder_core.specs.declared.pull_info.PullInfo.{PullInfo}
use Rattle.folder_core.specs.Steps.{is_accepted, step, MayChange}

abbrev pub after : FolderState → Entry → FolderState
after s e = (step s e.change).1

abbrev pub state_after : FolderState → List Entry → FolderState
state_after s es = fold after s es

-- at this state the entry may come next: its pass was given out, its caller kept the change's conditions,
-- and it was accepted with this answer
pub record MayFollow (passes : ℕ) (s : FolderState) (e : Entry) : Type 0 where
  pub given : (1 ≤ e.pass) × (e.pass ≤ passes)
  pub allowed : MayChange s.me e.change
  pub answered : (step s e.change).0 ≡ e.answer
  pub accepted : IsTrue (is_accepted e.answer)

-- each entry of the history may follow those before it
abbrev pub IsLegal : ℕ → FolderState → List Entry → Type 0
IsLegal passes s [] = ⊤
IsLegal passes s (e ∷ es) = MayFollow passes s e × IsLegal passes (after s e) es

-- the history leads from an opening state, which has no open pull, to this one
abbrev pub IsReplay : ℕ → FolderState → List Entry → FolderState → Type 0
IsReplay passes opening es end = (len opening.pulls ≡ 0) × IsLegal passes opening es × (state_after opening es ≡ end)

-- with the entries that the open pulls will add, the history has no room for what was done
abbrev pub is_over : ℕ → ℕ → Answer × FolderState → Bool
is_over limit entries done = is_accepted done.0 && nat_lt limit (entries + 1 + len done.1.pulls)

-- a change's answer and state after a history of some length
abbrev pub shared_step : ℕ → ℕ → FolderState → Change → Answer × FolderState
shared_step limit entries s change = if is_over limit entries (step s change) then (HistoryFull, s) else step s change

-- the answer at the point that a history leads to
abbrev pub shared_answer : ℕ → FolderState → List Entry → Change → Answer
shared_answer limit opening es change = (shared_step limit (length es) (state_after opening es) change).0

-- the entries of a pass
abbrev pub own_entries : ℕ → List Entry → List Entry
own_entries pass es = filter (λ e. e.pass == pass) es

-- the change is to end a pull of the name
abbrev pub ends_pull_of : Name → Change → Bool
ends_pull_of n (Finish c assembled) = bytes_eq c.name n
ends_pull_of n (GiveUp t) = bytes_eq t.name n
ends_pull_of n (Abort c) = bytes_eq c.name n
ends_pull_of n _ = false

-- the entry begins a pull of the name, or enters its commit
abbrev pub is_begin_of : Name → Answer → Bool
is_begin_of n (Begun t) = bytes_eq t.name n
is_begin_of n _ = false

abbrev pub is_enter_of : Name → Answer → Bool
is_enter_of n (Entered t) = bytes_eq t.name n
is_enter_of n _ = false

-- the entry ends a pull of the name: by a finish, by giving it up, or by an abort of its commit
abbrev pub is_end_of : Name → Entry → Bool
is_end_of n e = is_accepted e.answer && ends_pull_of n e.change

-- A finish after some entries ends the pull that was begun there over the local record, and entered: over
-- the version of that record, which is the local one still, with its target, of each of whose blocks some bytes have the
-- size and the digest. Nothing else ended it before.
pub record EndsPull (opening : FolderState) (front : List Entry) (commit : PullInfo) (assembled : FileRecord) : Type 0 where
  pub before : List Entry
  pub begun : Entry
  pub between : List Entry
  pub ticket : PullInfo
  pub divided : front ≡ before ++ begun ∷ between
  pub began : begun.answer ≡ Begun ticket
  pub over : ticket.base ≡ local (state_after opening before) ticket.name
  pub same : (ticket.number ≡ commit.number) × (ticket.name ≡ commit.name) × (ticket.target ≡ commit.target)
  pub entered : Entry
  pub entered_info : PullInfo
  pub enters : Contains between entered × (entered.answer ≡ Entered entered_info)
  pub same_entered : (entered_info.number ≡ commit.number) × (entered_info.name ≡ commit.name) × (entered_info.target ≡ commit.target)
  pub no_other_begin : count_by (λ e. is_begin_of commit.name e.answer) between ≡ 0
  pub one_enter : count_by (λ e. is_enter_of commit.name e.answer) between ≡ 1
  pub no_end : count_by (is_end_of commit.name) between ≡ 0
  pub unmoved : local_version (state_after opening front) commit.name ≡ option_map (λ r. r.version) ticket.base
  pub target : assembled ≡ commit.target
  pub blocks : IsAssembled assembled

-- in a legal history each finish ends a pull
abbrev pub CommitsAreLegal : Type 0
CommitsAreLegal =
    (passes : ℕ) (opening : FolderState) (front rest : List Entry) (done : Entry) (commit : PullInfo) (assembled : FileRecord)
    → IsFolder opening → len opening.pulls ≡ 0 → IsLegal passes opening (front ++ done ∷ rest) → done.change ≡ Finish commit assembled
    → EndsPull opening front commit assembled
