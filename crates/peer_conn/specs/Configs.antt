-- The ClusterConfigs of both devices (Block Exchange Protocol v1, "Cluster Config"; which entry counts where one is repeated, and
-- from where a peer is told an index, are own rules).
use Rattle.std.specs.Prelude.{ℕ, ℤ, pos, negsuc, ◌-◌, ◌^◌, ◌==◌, ◌&&◌, min, nat_le, bytes_eq, Bool, false, if◌then◌else◌, List, [], ◌∷◌, map, find, reverse, Option, Some, None, option_and_then}
use Rattle.bep_messages.specs.declared.cluster_config.ClusterConfig.{ClusterConfig}
use Rattle.bep_messages.specs.declared.device.Device.{Device}
use Rattle.bep_messages.specs.declared.folder.Folder.{Folder}
use Rattle.sync_record.specs.Devices.{Identity}
use Rattle.peer_conn.specs.declared.config.FolderTold.{FolderTold}

-- the compression `NEVER`
abbrev pub never : ℤ
never = pos 1

-- a sequence, as far as a signed number of 64 bits holds it
abbrev pub sequence_told : ℕ → ℤ
sequence_told sequence = pos (min sequence (2 ^ 63 - 1))

-- what is told of a device in a folder
abbrev pub device_told : Identity → List ℕ → ℕ → ℕ → Device
device_told id name sequence index_id =
    record {
      id = id;
      name = name;
      addresses = [];
      compression = never;
      cert_name = [];
      max_sequence = sequence_told sequence;
      introducer = false;
      index_id = index_id;
      skip_introduction_removals = false;
    }

-- and of a folder: this device by its name, and the peer
abbrev pub folder_told : Identity → List ℕ → Identity → FolderTold → Folder
folder_told me name peer f =
    record {
      id = f.id.now;
      label = [];
      read_only = false;
      ignore_permissions = false;
      ignore_delete = false;
      disable_temp_indexes = false;
      paused = false;
      devices = device_told me name f.sequence f.index_id ∷ device_told peer [] f.peer_sequence f.peer_index_id ∷ [];
    }

abbrev pub config_of : Identity → List ℕ → Identity → List FolderTold → ClusterConfig
config_of me name peer folders = record { folders = map (folder_told me name peer) folders }

-- the last folder with this id
abbrev pub folder_in : List ℕ → ClusterConfig → Option Folder
folder_in id config = find (λ f. bytes_eq f.id id) (reverse config.folders)

-- the last entry of a device
abbrev pub last_device : Identity → List Device → Option Device
last_device id devices = find (λ d. bytes_eq d.id id) (reverse devices)

-- the entry of a device in a folder that is there
abbrev pub entry_in : Identity → Option Folder → Option Device
entry_in id folder = option_and_then (λ f. last_device id f.devices) folder

-- a sequence from 1 to the last one
abbrev pub is_reached : ℕ → ℤ → Bool
is_reached last (pos n) = nat_le 1 n && nat_le n last
is_reached last (negsuc n) = false

-- what the peer has of this index, if it says so
abbrev pub start_at : ℕ → ℕ → Device → Option ℤ
start_at index_id last d = if (d.index_id == index_id) && is_reached last d.max_sequence then Some d.max_sequence else None

-- from where the peer is told this device's records; from the first one on where it says nothing
abbrev pub start_in : ClusterConfig → List ℕ → Identity → ℕ → ℕ → Option ℤ
start_in config folder me index_id last = option_and_then (start_at index_id last) (entry_in me (folder_in folder config))
