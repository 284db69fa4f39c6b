-- Which changes of the shared folders the events of a connection are (Block Exchange Protocol v1, "Cluster Config" and "Index and
-- Index Update"; when a peer's records are forgotten: own rule).
use Rattle.std.specs.Prelude.{ℕ, ◌+◌, ◌==◌, ◌&&◌, ◌||◌, not, Bool, bytes_eq, if◌then◌else◌, List, [], ◌∷◌, ◌++◌, map, position, take, drop, Option, Some, None}
use Rattle.std.specs.List.{list_any}
use Rattle.bep_messages.specs.declared.cluster_config.ClusterConfig.{ClusterConfig}
use Rattle.bep_messages.specs.declared.device.Device.{Device}
use Rattle.bep_messages.specs.declared.file_info.FileInfo.{FileInfo}
use Rattle.bep_session.specs.declared.event.Event.{Event}
use Rattle.bep_session.specs.declared.event.Event.TheVariants.{PeerHello, PeerConfig, Full, More, Asked, Answered, UnknownResponse, Skipped, PeerClosed, Ended}
use Rattle.folder_core.specs.declared.change.Change.{Change}
use Rattle.folder_core.specs.declared.change.Change.TheVariants.{Forget, IndexFull, IndexMore}
use Rattle.peer_conn.specs.Configs.{entry_in, folder_in}
use Rattle.peer_reader.specs.Counts.{one_change, one_unshared, with_skipped}
use Rattle.peer_reader.specs.Records.{kept_records, skipped_count}
use Rattle.peer_reader.specs.declared.counts.ReaderCounts.{ReaderCounts}
use Rattle.sync_record.specs.Devices.{Identity}

-- What is known of a folder that is shared with the peer: its id, the number of the peer's index of which it has records, or 0 for
-- none, and whether the peer's last ClusterConfig has it.
pub record Heard : Type 0 where
  pub id : List ℕ
  pub kept : ℕ
  pub told : Bool

-- a change of a folder, by the folder's place
abbrev pub Made : Type 0
Made = ℕ × Change

-- What an event comes to: the folders after it, the changes that are made, and what is counted.
pub record Effect : Type 0 where
  pub folders : List Heard
  pub made : List Made
  pub count : ReaderCounts → ReaderCounts

abbrev pub same_counts : ReaderCounts → ReaderCounts
same_counts c = c

abbrev pub count_changes : List Made → ReaderCounts → ReaderCounts
count_changes [] c = c
count_changes (m ∷ ms) c = count_changes ms (one_change c)

abbrev pub count_index : List FileInfo → ReaderCounts → ReaderCounts
count_index files c = with_skipped (skipped_count files) (one_change c)

-- ---- a ClusterConfig

-- the number of the peer's index of a folder, 0 where none is told
abbrev pub index_in : Option Device → ℕ
index_in None = 0
index_in (Some d) = d.index_id

abbrev pub index_told : Identity → ClusterConfig → List ℕ → ℕ
index_told peer config id = index_in (entry_in peer (folder_in id config))

-- the peer's records are not those of the index with the kept number
abbrev pub is_new_index : ℕ → ℕ → Bool
is_new_index index kept = (index == 0) || not (index == kept)

-- so they are forgotten
abbrev pub is_forgotten : Identity → ClusterConfig → Heard → Bool
is_forgotten peer config f = is_new_index (index_told peer config f.id) f.kept

abbrev pub is_told_in : ClusterConfig → List ℕ → Bool
is_told_in config id = list_any (λ f. bytes_eq f.id id) config.folders

abbrev pub told_by : Identity → ClusterConfig → Heard → Heard
told_by peer config f = record f { kept = index_told peer config f.id; told = is_told_in config f.id }

-- the change of a folder at this place, if there is one
abbrev pub forgets_one : Identity → ClusterConfig → ℕ → Heard → List Made
forgets_one peer config k f = if is_forgotten peer config f then (k, Forget peer) ∷ [] else []

-- the changes of the folders from this place on, in their order
abbrev pub forgets : Identity → ClusterConfig → ℕ → List Heard → List Made
forgets peer config k [] = []
forgets peer config k (f ∷ fs) = forgets_one peer config k f ++ forgets peer config (k + 1) fs

-- what the first n folders come to
abbrev pub after_config_of : Identity → ClusterConfig → ℕ → List Heard → Effect
after_config_of peer config n fs =
    record {
      folders = map (told_by peer config) (take n fs) ++ drop n fs;
      made = forgets peer config 0 (take n fs);
      count = count_changes (forgets peer config 0 (take n fs));
    }

abbrev pub after_config : Identity → ClusterConfig → List Heard → Effect
after_config peer config fs =
    record {
      folders = map (told_by peer config) fs;
      made = forgets peer config 0 fs;
      count = count_changes (forgets peer config 0 fs);
    }

-- ---- an index, or a Request

-- the folder is shared by both, and has this id
abbrev pub is_shared_as : List ℕ → Heard → Bool
is_shared_as id f = f.told && bytes_eq f.id id

-- the place of the first such folder
abbrev pub place_of : List ℕ → List Heard → Option ℕ
place_of id fs = position (is_shared_as id) fs

abbrev pub no_effect : List Heard → Effect
no_effect fs = record { folders = fs; made = []; count = same_counts }

abbrev pub unshared_effect : List Heard → Effect
unshared_effect fs = record { folders = fs; made = []; count = one_unshared }

-- a change of the folder at a place, with the records of these messages
abbrev pub index_effect : (List FileInfo → Change) → List FileInfo → List Heard → Option ℕ → Effect
index_effect change files fs None = unshared_effect fs
index_effect change files fs (Some i) =
    record { folders = fs; made = (i, change files) ∷ []; count = count_index files }

abbrev pub asked_effect : List Heard → Option ℕ → Effect
asked_effect fs None = unshared_effect fs
asked_effect fs (Some i) = no_effect fs

abbrev pub full_of : Identity → List FileInfo → Change
full_of peer files = IndexFull peer (kept_records files)

abbrev pub more_of : Identity → List FileInfo → Change
more_of peer files = IndexMore peer (kept_records files)

-- the change that an Index is, which has all records of the peer, or an IndexUpdate, which has more
abbrev pub announced_change : Bool → Identity → List FileInfo → Change
announced_change is_whole peer files = if is_whole then full_of peer files else more_of peer files

-- ---- any event

abbrev pub after_event : Identity → List Heard → Event → Effect
after_event peer fs (PeerConfig config) = after_config peer config fs
after_event peer fs (Full m) = index_effect (full_of peer) m.files fs (place_of m.folder fs)
after_event peer fs (More m) = index_effect (more_of peer) m.files fs (place_of m.folder fs)
after_event peer fs (Asked q) = asked_effect fs (place_of q.folder fs)
after_event peer fs (PeerHello m) = no_effect fs
after_event peer fs (Answered m) = no_effect fs
after_event peer fs (UnknownResponse id) = no_effect fs
after_event peer fs (Skipped kind) = no_effect fs
after_event peer fs (PeerClosed reason) = no_effect fs
after_event peer fs (Ended fault) = no_effect fs
