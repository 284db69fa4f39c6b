-- The state that a run leaves (own rule).
use Rattle.std.specs.Prelude.{ℕ, ◌==◌, Bool, not, ◌&&◌, List, map, filter, fold}
use Rattle.std.specs.FinMap.{empty, insert}
use Rattle.std.specs.List.{enumerate_from, flat_map, zip}
use Rattle.folder_core.specs.States.{FolderState}
use Rattle.node_config.specs.declared.config.Config.{Config}
use Rattle.node_config.specs.declared.config.FolderConfig.{FolderConfig}
use Rattle.node_config.specs.declared.config.PeerConfig.{PeerConfig}
use Rattle.node_state.specs.declared.state.StoredFolder.{StoredFolder}
use Rattle.node_state.specs.Peers.{Peers}
use Rattle.sync_record.specs.Devices.{Identity}
use Rattle.node_resume.specs.declared.shares.Share.{Share}

-- the numbers other than 0 of a device's shares that are of the folder at this place
abbrev pub numbers_of : ℕ → Identity → List Share → List ℕ → List (Identity × ℕ)
numbers_of place device shares kept =
    map (λ p. (device, p.1)) (filter (λ p. p.0.folder == place && not (p.1 == 0)) (zip shares kept))

-- those of all peers, one after another
abbrev pub numbers_at : ℕ → List PeerConfig → List (List Share) → List (List ℕ) → List (Identity × ℕ)
numbers_at place peers shares kept =
    flat_map (λ p. numbers_of place p.0.device p.1.0 p.1.1) (zip peers (zip shares kept))

-- the last number of each device
abbrev pub peers_left : ℕ → List PeerConfig → List (List Share) → List (List ℕ) → Peers
peers_left place peers shares kept = fold (λ m e. insert m e.0 e.1) empty (numbers_at place peers shares kept)

-- a folder at its place, with its index id and its records
abbrev pub stored_at : Config → List (List Share) → List (List ℕ) → ℕ × (FolderConfig × (ℕ × FolderState)) → StoredFolder
stored_at config shares kept f = record {
  id = f.1.0.id;
  index_id = f.1.1.0;
  folder = f.1.1.1;
  peers = peers_left f.0 config.peers shares kept;
}

-- each folder of the configuration, with the index id and the records at its place
abbrev pub folders_left : Config → List ℕ → List (List Share) → List FolderState → List (List ℕ) → List StoredFolder
folders_left config index_ids shares records kept =
    map (stored_at config shares kept) (enumerate_from 0 (zip config.folders (zip index_ids records)))
