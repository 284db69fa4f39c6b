-- Worked rows of histories (own rules).
use Rattle.std.specs.Prelude.{◌≡◌, ℕ, ◌+◌, if◌then◌else◌, List, [], ◌∷◌, map, None}
use Rattle.folder_core.specs.declared.pull_stage.PullStage.TheVariants.{Pulling, Committing}
use Rattle.folder_core.specs.declared.answer.Answer.TheVariants.{HistoryFull, Applied, Closed, Recorded, Done, Begun, Entered}
use Rattle.folder_core.specs.declared.change.Change.{Change}
use Rattle.folder_core.specs.declared.change.Change.TheVariants.{ScanFound, IndexFull, BeginPull, EnterCommit, Finish, GiveUp}
use Rattle.folder_core.specs.States.{FolderState}
use Rattle.folder_core.specs.Steps.{is_accepted}
use Rattle.folder_core.specs.Samples.{Row, me, p1, x, y, z, by, folder, pull, target, ticket, committed, offered, found_abd, one_file, two_files}
use Rattle.folder_calls.specs.Histories.{shared_step}

-- the changes from a state, after a history of some length, one after another, each with its answer and its state
abbrev pub shared_row : ℕ → ℕ → FolderState → List Change → Row
shared_row limit entries s [] = []
shared_row limit entries s (c ∷ cs) =
    (c, (shared_step limit entries s c).0, (shared_step limit entries s c).1)
    ∷ shared_row limit (if is_accepted (shared_step limit entries s c).0 then entries + 1 else entries) (shared_step limit entries s c).1 cs

-- the row's changes give its answers and its states
abbrev pub IsRow : ℕ → Row → Type 0
IsRow limit row = shared_row limit 0 (folder [] 0 []) (map (λ m. m.0) row) ≡ row

abbrev pub history_of_2 : Row
history_of_2 =
    (ScanFound x None found_abd 0, Recorded 1, one_file)
    ∷ (ScanFound y None found_abd 0, Recorded 2, two_files)
    ∷ (ScanFound z None found_abd 0, HistoryFull, two_files)
    ∷ []

-- what closes an open pull finds its room
abbrev pub history_of_4 : Row
history_of_4 =
    (IndexFull p1 (target ∷ []), Applied, offered)
    ∷ (BeginPull x, Begun ticket, folder (by p1 target ∷ []) 0 ((x, pull Pulling) ∷ []))
    ∷ (EnterCommit ticket, Entered ticket, folder (by p1 target ∷ []) 0 ((x, pull Committing) ∷ []))
    ∷ (ScanFound y None found_abd 0, HistoryFull, folder (by p1 target ∷ []) 0 ((x, pull Committing) ∷ []))
    ∷ (Finish ticket target, Done 1, folder (by me committed ∷ by p1 target ∷ []) 1 [])
    ∷ []

abbrev pub history_of_3 : Row
history_of_3 =
    (IndexFull p1 (target ∷ []), Applied, offered)
    ∷ (BeginPull x, Begun ticket, folder (by p1 target ∷ []) 0 ((x, pull Pulling) ∷ []))
    ∷ (EnterCommit ticket, HistoryFull, folder (by p1 target ∷ []) 0 ((x, pull Pulling) ∷ []))
    ∷ (GiveUp ticket, Closed, offered)
    ∷ []
