-- A folder that was opened, and the history of its changes since.
use Rattle.std.specs.Prelude.{◌≡◌, ℕ, ◌+◌, ◌^◌, ◌≤◌, if◌then◌else◌, List, [], ◌∷◌, ◌++◌, length, Option, Some, None, Result, Ok, Err}
use Rattle.std.specs.FinMap.{len}
use Rattle.folder_core.specs.States.{FolderState, IsFolder}
use Rattle.folder_core.specs.declared.answer.Answer.{Answer}
use Rattle.folder_core.specs.declared.change.Change.{Change}
use Rattle.folder_core.specs.Steps.{is_accepted}
use Rattle.folder_calls.specs.declared.entry.Entry.{Entry}
use Rattle.folder_calls.specs.declared.history.History.{History}
use Rattle.folder_calls.specs.Histories.{IsLegal, state_after, shared_answer}

-- the state that the history leads to
abbrev pub end : History → FolderState
end h = state_after h.opening h.entries

-- The folder was opened without open pulls, its history is legal, and there is room for the entries that end the open pulls. At most
-- 2^32 passes were given out.
pub record IsHistory (h : History) : Type 0 where
  pub opening : IsFolder h.opening
  pub no_pull : len h.opening.pulls ≡ 0
  pub legal : IsLegal h.passes h.opening h.entries
  pub room : length h.entries + len (end h).pulls ≤ h.limit
  pub few : h.passes ≤ 2 ^ 32

-- this folder was opened, and nothing was changed since
abbrev pub new_history : FolderState → ℕ → ℕ → History
new_history s limit passes = record { opening = s; entries = []; limit = limit; passes = passes }

abbrev pub with_entry : History → ℕ → Change → Answer → History
with_entry h pass change answer = record h { entries = h.entries ++ (record { pass = pass; change = change; answer = answer }) ∷ [] }

-- A change of a pass gets the shared answer, and is appended if it is accepted. Without an answer it is out of memory, and nothing
-- changed.
abbrev pub Appends : History → ℕ → Change → Option Answer → History → Type 0
Appends old pass change None new = new ≡ old
Appends old pass change (Some answer) new =
    (answer ≡ shared_answer old.limit old.opening old.entries change)
    × (new ≡ if is_accepted answer then with_entry old pass change answer else old)

-- what a change that may be out of memory answers, if it isn't
abbrev pub answered : {X E : Type 0} → (X → Answer) → Result X E → Option Answer
answered f (Ok x) = Some (f x)
answered f (Err fault) = None

-- the entries after a change of a pass, which is appended if it is accepted
abbrev pub appended : List Entry → ℕ → Change → Option Answer → List Entry
appended es pass change None = es
appended es pass change (Some answer) =
    if is_accepted answer then es ++ (record { pass = pass; change = change; answer = answer }) ∷ [] else es

-- the recorded keeps this folder, in the state after the history, with so many open pulls, and has room for the entries that end them
pub record IsRecordedFolder (state : FolderState) (pulls capacity : ℕ) (h : History) : Type 0 where
  pub history : IsHistory h
  pub state_is : state ≡ end h
  pub pulls_is : pulls ≡ len (end h).pulls
  pub room : length h.entries + pulls ≤ capacity
