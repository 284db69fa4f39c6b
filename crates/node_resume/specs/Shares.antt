-- What is shared with a peer, and which of its indexes the records are of (own rule).
use Rattle.std.specs.Prelude.{ℕ, ◌==◌, Bool, not, List, [], ◌∷◌, map, filter, Option, None, Some, unwrap_or}
use Rattle.std.specs.FinMap.{get}
use Rattle.std.specs.List.{slice_get}
use Rattle.node_config.specs.declared.config.Config.{Config}
use Rattle.node_config.specs.declared.config.FolderConfig.{FolderConfig}
use Rattle.node_config.specs.declared.config.PeerConfig.{PeerConfig}
use Rattle.node_state.specs.declared.state.State.{State}
use Rattle.node_state.specs.declared.state.StoredFolder.{StoredFolder}
use Rattle.sync_record.specs.Devices.{Identity}
use Rattle.node_resume.specs.declared.shares.Share.{Share}
use Rattle.node_resume.specs.Resumed.{stored_of}

-- the index id that is kept of the device in a stored folder, 0 for none
abbrev pub kept_in : Identity → Option StoredFolder → ℕ
kept_in device None = 0
kept_in device (Some stored) = unwrap_or (get stored.peers device) 0

-- and in that of a folder of the configuration
abbrev pub kept_of : State → Identity → Option FolderConfig → ℕ
kept_of state device None = 0
kept_of state device (Some folder) = kept_in device (stored_of folder.id state.folders)

-- and in that of the folder at this place
abbrev pub kept_index_id : Config → State → Identity → ℕ → ℕ
kept_index_id config state device place = kept_of state device (slice_get config.folders place)

-- each number once, where it first stands
abbrev pub firsts : List ℕ → List ℕ
firsts [] = []
firsts (x ∷ xs) = x ∷ filter (λ y. not (y == x)) (firsts xs)

abbrev pub share_of : Config → State → Identity → ℕ → Share
share_of config state device place = record { folder = place; kept_index_id = kept_index_id config state device place }

-- the places of the peer, each once
abbrev pub shares_of : Config → State → PeerConfig → List Share
shares_of config state peer = map (share_of config state peer.device) (firsts peer.folders)
