-- Why a folder isn't kept alike with a peer, and whether the peer takes itself for this device, by its ClusterConfig (own rule).
use Rattle.std.specs.Prelude.{ℕ, List, [], Bool, ◌&&◌, find, not, ◌==◌, Option, Some, None, bytes_eq, if◌then◌else◌}
use Rattle.std.specs.List.{list_any}
use Rattle.bep_messages.specs.declared.cluster_config.ClusterConfig.{ClusterConfig}
use Rattle.bep_messages.specs.declared.device.Device.{Device}
use Rattle.bep_messages.specs.declared.folder.Folder.{Folder}
use Rattle.node_context.specs.declared.event.ShareGap.{ShareGap}
use Rattle.node_context.specs.declared.event.ShareGap.TheVariants.{NotThere, NotWithUs, WithoutPeer}
use Rattle.peer_conn.specs.Configs.{folder_in}
use Rattle.sync_record.specs.Devices.{Identity}
use Rattle.node_peer.specs.Lists.{has}

-- the same text
abbrev pub has_text : List ℕ → List ℕ → Bool
has_text id text = bytes_eq text id

-- by what the ClusterConfig says of the folder, if anything
abbrev pub gap_in : Identity → Identity → Option Folder → Option ShareGap
gap_in me peer None = Some NotThere
gap_in me peer (Some f) = if has me f then (if has peer f then None else Some WithoutPeer) else Some NotWithUs

abbrev pub gap_of : Identity → Identity → ClusterConfig → List ℕ → Option ShareGap
gap_of me peer config id = gap_in me peer (folder_in id config)

-- it is this device, with the number of an index that is none of these
abbrev pub is_with_another_index : Identity → List ℕ → Device → Bool
is_with_another_index device but d = bytes_eq d.id device && (not (d.index_id == 0) && not (list_any (λ n. n == d.index_id) but))

abbrev pub has_another_index : Identity → List ℕ → Folder → Bool
has_another_index device but f = list_any (is_with_another_index device but) f.devices

-- who tells the folder has an index as this device, and knows of none of the peer
abbrev pub is_told_as_own : Identity → Identity → List ℕ → Folder → Bool
is_told_as_own me peer own f = has_another_index me own f && (has peer f && not (has_another_index peer [] f))

abbrev pub is_own_identity : Identity → Identity → List ℕ → ClusterConfig → Bool
is_own_identity me peer own config = list_any (is_told_as_own me peer own) config.folders

abbrev pub index_of : Option Device → ℕ
index_of None = 0
index_of (Some d) = d.index_id

abbrev pub index_in : Identity → Option Folder → ℕ
index_in device None = 0
index_in device (Some f) = index_of (find (is_with_another_index device []) f.devices)

-- the number of the device's index that comes first; 0 where there is none
abbrev pub first_index : Identity → ClusterConfig → ℕ
first_index device config = index_in device (find (has_another_index device []) config.folders)
