-- What is recovered from a state and the frames of the journal behind it (own rule).
use Rattle.std.specs.Prelude.{◌≡◌, ◌≢◌, ℕ, not, List, [], ◌∷◌, ◌++◌, map, filter, find, flat_map, fold, max, bytes_eq, Option, Some, None}
use Rattle.std.specs.FinMap.{empty, get}
use Rattle.std.specs.List.{AllByRecursion}
use Rattle.std.specs.Option.{option_map_or, option_or}
use Rattle.folder_core.specs.Announced.{key, last_of}
use Rattle.folder_core.specs.States.{FolderState, empty_folder, local}
use Rattle.node_journal.specs.declared.frame.Frame.{Frame}
use Rattle.node_journal.specs.declared.part.Part.{Part}
use Rattle.node_state.specs.declared.state.State.{State}
use Rattle.node_state.specs.declared.state.StoredFolder.{StoredFolder}
use Rattle.node_state.specs.Peers.{Peers}
use Rattle.sync_record.specs.Devices.{Identity}
use Rattle.sync_record.specs.Records.{Name, FileRecord}
use Rattle.node_replay.specs.declared.plan.PullPlan.{PullPlan}
use Rattle.node_replay.specs.declared.recovering.RecoveredFolder.{RecoveredFolder}
use Rattle.node_replay.specs.Told.{lasts_told, number_after, parts_of, plans_told, records_told}

-- ---- a folder's records

-- The second folder is the first one with these own records laid over: of each name the last told one, or else the one that was
-- there. It has the greatest of the last sequences, and no open pull; other devices' records are as they were.
pub record IsRecovered (told : List FileRecord) (lasts : List ℕ) (s t : FolderState) : Type 0 where
  pub me : t.me ≡ s.me
  pub own : (n : Name) → local t n ≡ option_or (last_of n told) (local s n)
  pub others : (n : Name) (d : Identity) → d ≢ s.me → get t.announced (key n d) ≡ get s.announced (key n d)
  pub last : t.last ≡ fold max s.last lasts
  pub pulls : t.pulls ≡ empty

-- ---- a folder

-- what is stored of it; of a folder that the state lacks, nothing
abbrev pub folder_stored : Identity → Option StoredFolder → FolderState
folder_stored me None = empty_folder me
folder_stored me (Some f) = f.folder

abbrev pub number_stored : Option StoredFolder → ℕ
number_stored None = 0
number_stored (Some f) = f.index_id

abbrev pub peers_stored : Option StoredFolder → Peers
peers_stored None = empty
peers_stored (Some f) = f.peers

-- what is stored of a folder, with what these parts tell
pub record IsRecoveredFrom (me : Identity) (stored : Option StoredFolder) (parts : List Part) (r : RecoveredFolder) : Type 0 where
  pub index_id : r.stored.index_id ≡ number_after (number_stored stored) parts
  pub folder : IsRecovered (records_told parts) (lasts_told parts) (folder_stored me stored) r.stored.folder
  pub peers : r.stored.peers ≡ peers_stored stored
  pub plans : r.plans ≡ plans_told parts

-- ---- all folders

-- the first stored folder of this id
abbrev pub stored_of : List ℕ → List StoredFolder → Option StoredFolder
stored_of id folders = find (λ f. bytes_eq f.id id) folders

-- each id once, where it first stands
abbrev pub firsts : List (List ℕ) → List (List ℕ)
firsts [] = []
firsts (x ∷ xs) = x ∷ filter (λ y. not (bytes_eq y x)) (firsts xs)

-- the ids of the state's folders, and then those that the frames bring
abbrev pub ids_of : State → List Frame → List (List ℕ)
ids_of state frames = firsts (map (λ f. f.id) state.folders ++ map (λ p. p.id) (flat_map (λ f. f.folders) frames))

-- what the state has under the folder's id, with what the frames tell of this id
abbrev pub IsRecoveredFolder : Identity → State → List Frame → RecoveredFolder → Type 0
IsRecoveredFolder me state frames r = IsRecoveredFrom me (stored_of r.stored.id state.folders) (parts_of r.stored.id frames) r

-- what is recovered: each of these folders once, in this order
pub record IsRecovery (me : Identity) (state : State) (frames : List Frame) (rs : List RecoveredFolder) : Type 0 where
  pub ids : map (λ r. r.stored.id) rs ≡ ids_of state frames
  pub each : AllByRecursion (IsRecoveredFolder me state frames) rs

-- ---- what is recovered goes on

-- the state that was recovered
abbrev pub state_after : List RecoveredFolder → State
state_after rs = record { folders = map (λ r. r.stored) rs }

-- the plans of the folder of this id
abbrev pub plans_in : List ℕ → List RecoveredFolder → List PullPlan
plans_in id rs = option_map_or (λ r. r.plans) (find (λ r. bytes_eq r.stored.id id) rs) []

-- a folder with the plans that were recovered before its own
abbrev pub with_plans : List RecoveredFolder → RecoveredFolder → RecoveredFolder
with_plans rs q = record q { plans = plans_in q.stored.id rs ++ q.plans }
