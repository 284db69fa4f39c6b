-- What becomes of the plans of pulls that the last run left (own rule).
use Rattle.std.specs.Prelude.{◌≡◌, ◌⊎◌, ℕ, Bool, true, bytes_eq, filter, find, fold, map, not, List, [], ◌∷◌, Option, Some, None}
use Rattle.folder_core.specs.States.{FolderState}
use Rattle.folder_db.specs.declared.folder.IndexedFolder.{IndexedFolder}
use Rattle.node_threads.specs.declared.folders.StartFolder.{StartFolder}
use Rattle.node_replay.specs.Settled.{settled}
use Rattle.node_replay.specs.Open.{open_plans}
use Rattle.node_replay.specs.declared.plan.PullPlan.{PullPlan}
use Rattle.node_state.specs.declared.state.State.{State}
use Rattle.node_state.specs.declared.state.StoredFolder.{StoredFolder}
use Rattle.bepd_run.specs.declared.last_run.FolderPlans.{FolderPlans}

-- ---- at a start

abbrev pub plans_of : Option FolderPlans → List PullPlan
plans_of None = []
plans_of (Some f) = f.plans

-- the first folder with this id, and its plans
abbrev pub folder_under : List FolderPlans → List ℕ → Option FolderPlans
folder_under plans id = find (λ f. bytes_eq f.id id) plans

abbrev pub plans_under : List FolderPlans → List ℕ → List PullPlan
plans_under plans id = plans_of (folder_under plans id)

abbrev pub without_id : List ℕ → List FolderPlans → List FolderPlans
without_id id plans = filter (λ f. not (bytes_eq f.id id)) plans

-- The folder was away, and is as it was; or the last one is what it is after all these plans, each of which was made or not.
abbrev pub AreSettled : List PullPlan → FolderState → FolderState → Bool → Type 0
AreSettled plans s t is_unsettled =
    ((is_unsettled ≡ true) × (t ≡ s)) ⊎ ((answers : List (PullPlan × Bool)) × (map (λ a. a.0) answers ≡ plans) × (t ≡ fold settled s answers))

-- a folder, after these plans
abbrev pub IsSettledBy : List PullPlan → StartFolder IndexedFolder → StartFolder IndexedFolder → Type 0
IsSettledBy plans old new = (new.settings ≡ old.settings) × (new.kept ≡ old.kept) × (new.is_doubted ≡ old.is_doubted) × AreSettled plans old.core.folder new.core.folder new.is_unsettled

-- after some
abbrev pub IsSettledFolder : StartFolder IndexedFolder → StartFolder IndexedFolder → Type 0
IsSettledFolder old new = (plans : List PullPlan) × IsSettledBy plans old new

-- ---- when a journal is begun

-- the first folder of the state with this id
abbrev pub stored_under : State → List ℕ → Option StoredFolder
stored_under state id = find (λ f. bytes_eq f.id id) state.folders

-- a folder with these plans, unless there are none
abbrev pub with_plans : FolderPlans → List PullPlan → List FolderPlans
with_plans f [] = []
with_plans f (p ∷ ps) = record f { plans = p ∷ ps } ∷ []

abbrev pub open_of : Option StoredFolder → FolderPlans → List FolderPlans
open_of None f = []
open_of (Some stored) f = with_plans f (open_plans stored.folder f.plans)

-- a folder with its plans that may still be of a pull that put something in place, if the state has it and there are any
abbrev pub open_in : State → FolderPlans → List FolderPlans
open_in state f = open_of (stored_under state f.id) f
