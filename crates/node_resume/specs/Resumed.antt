-- What a run takes over from the state of the last one (own rule).
use Rattle.std.specs.Prelude.{ℕ, ◌==◌, Bool, ◌&&◌, ◌||◌, if◌then◌else◌, List, map, find, bytes_eq, Option, None, Some}
use Rattle.std.specs.FinMap.{empty, retain_keys}
use Rattle.std.specs.List.{enumerate_from, list_any}
use Rattle.folder_core.specs.States.{FolderState, empty_folder}
use Rattle.node_config.specs.declared.config.Config.{Config}
use Rattle.node_config.specs.declared.config.PeerConfig.{PeerConfig}
use Rattle.node_state.specs.declared.state.State.{State}
use Rattle.node_state.specs.declared.state.StoredFolder.{StoredFolder}
use Rattle.sync_record.specs.Devices.{Identity}
use Rattle.node_resume.specs.declared.resuming.ResumedFolder.{ResumedFolder}

-- ---- the records that stay in a folder

-- the peer has this place among its folders
abbrev pub has_place : ℕ → PeerConfig → Bool
has_place place peer = list_any (λ p. p == place) peer.folders

-- a peer of the configuration has this identity, and this place among its folders
abbrev pub is_shared_with : Config → ℕ → Identity → Bool
is_shared_with config place device = list_any (λ peer. bytes_eq peer.device device && has_place place peer) config.peers

-- the records of the last device stay in the folder of the first one at this place: the device is that one, or the folder is shared with it
abbrev pub is_kept : Config → ℕ → Identity → Identity → Bool
is_kept config place me device = bytes_eq device me || is_shared_with config place device

-- the folder at this place without the records of devices that it isn't shared with, and without open pulls
abbrev pub shared_records : Config → ℕ → FolderState → FolderState
shared_records config place s = record s {
  announced = retain_keys s.announced (λ k. is_kept config place s.me k.device);
  pulls = empty;
}

-- ---- a folder

-- the first stored folder of this id
abbrev pub stored_of : List ℕ → List StoredFolder → Option StoredFolder
stored_of id folders = find (λ f. bytes_eq f.id id) folders

-- what a run has of a folder when it begins
pub record Resumed : Type 0 where
  pub index_id : ℕ
  pub folder : FolderState

abbrev pub taken : ResumedFolder → Resumed
taken r = record { index_id = r.index_id; folder = r.records.folder }

-- Where nothing is stored of the folder, it is empty, under the new index id. Else it has its records, under its index id, or under the new
-- one where something may be missing that peers were told.
abbrev pub resumed_from : Config → ℕ → Bool → ℕ → Option StoredFolder → Resumed
resumed_from config new_index_id is_left place None = record { index_id = new_index_id; folder = empty_folder config.device }
resumed_from config new_index_id is_left place (Some stored) = record {
  index_id = if is_left then new_index_id else stored.index_id;
  folder = shared_records config place stored.folder;
}

-- ---- all folders

-- each folder of the configuration, with what is stored under its id
abbrev pub resumed_all : Config → State → ℕ → Bool → List Resumed
resumed_all config state new_index_id is_left =
    map (λ f. resumed_from config new_index_id is_left f.0 (stored_of f.1.id state.folders)) (enumerate_from 0 config.folders)
