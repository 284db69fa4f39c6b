-- What a run leaves, and what the next one takes over of it, by the places of the folders.
use Rattle.std.specs.Prelude.{◌≡◌, ◌≢◌, ℕ, AllPairs, Bool, Contains, List, Some, false, length, slice_get}
use Rattle.folder_core.specs.States.{FolderState}
use Rattle.node_config.specs.declared.config.Config.{Config}
use Rattle.node_config.specs.declared.config.FolderConfig.{FolderConfig}
use Rattle.node_config.specs.declared.config.PeerConfig.{PeerConfig}
use Rattle.node_resume.specs.Left.{folders_left}
use Rattle.node_resume.specs.Resumed.{Resumed, resumed_all}
use Rattle.node_resume.specs.Shares.{shares_of}
use Rattle.node_resume.specs.declared.shares.Share.{Share}
use Rattle.node_state.specs.declared.state.State.{State}
use Rattle.node_state.specs.declared.state.StoredFolder.{StoredFolder}
use Rattle.sync_record.specs.Devices.{Identity}
use Rattle.proof_node.specs.Firsts.{IsFirst}

-- of the folders that are stored under the id, this one is the first
abbrev pub IsStoredUnder : List ℕ → List StoredFolder → StoredFolder → Type 0
IsStoredUnder id folders stored = (i : ℕ) × IsFirst (λ f. f.id ≡ id) folders i stored

-- no folder is stored under the id
abbrev pub IsStoredNowhere : List ℕ → List StoredFolder → Type 0
IsStoredNowhere id folders = (i : ℕ) (f : StoredFolder) → slice_get folders i ≡ Some f → f.id ≢ id

-- the folder at the place is shared with the device
abbrev pub IsSharedWith : Config → ℕ → Identity → Type 0
IsSharedWith config place device = (p : PeerConfig) × Contains config.peers p × (p.device ≡ device) × Contains p.folders place

-- the share of the peer that has this number, and the folder of the configuration that it is of
abbrev pub IsShareOf : Config → State → PeerConfig → ℕ → Share → FolderConfig → Type 0
IsShareOf config state peer i s folder = (slice_get (shares_of config state peer) i ≡ Some s) × (slice_get config.folders s.folder ≡ Some folder)

-- the run takes this over of the folder of the configuration that has the place
pub record IsTakenOver (config : Config) (state : State) (new_index_id : ℕ) (is_left : Bool) (place : ℕ) (folder : FolderConfig) (r : Resumed) : Type 0 where
  pub configured : slice_get config.folders place ≡ Some folder
  pub taken : slice_get (resumed_all config state new_index_id is_left) place ≡ Some r

-- no two folders have one id
abbrev pub HaveOwnIds : List FolderConfig → Type 0
HaveOwnIds folders = AllPairs (λ f g. f.id ≢ g.id) folders

-- no two peers are one device
abbrev pub HaveOwnDevices : List PeerConfig → Type 0
HaveOwnDevices peers = AllPairs (λ p q. p.device ≢ q.device) peers

-- What a run has when it ends: of each folder its index id and its records, and of each peer its shares and their numbers.
pub record EndedRun : Type 0 where
  pub config : Config
  pub index_ids : List ℕ
  pub shares : List (List Share)
  pub records : List FolderState
  pub kept : List (List ℕ)

-- it has an index id and records of each folder of its configuration
abbrev pub FitsConfig : EndedRun → Type 0
FitsConfig run = (length run.index_ids ≡ length run.config.folders) × (length run.records ≡ length run.config.folders)

-- the folders that it leaves
abbrev pub folders_of : EndedRun → List StoredFolder
folders_of run = folders_left run.config run.index_ids run.shares run.records run.kept

-- the state that it leaves
abbrev pub state_of : EndedRun → State
state_of run = record { folders = folders_of run }

-- the folders with which the next run begins, if nothing may be missing
abbrev pub next_folders : EndedRun → ℕ → List Resumed
next_folders run new_index_id = resumed_all run.config (state_of run) new_index_id false
