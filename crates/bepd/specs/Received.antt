-- What a peer's stream says of one folder (Block Exchange Protocol v1, "Index and Index Update").
use Rattle.std.specs.Prelude.{ℕ, Bool, not, if◌then◌else◌, List, [], ◌∷◌, map, filter, flat_map, fold, length, bytes_eq, is_none, replicate}
use Rattle.bep_messages.specs.declared.file_info.FileInfo.{FileInfo}
use Rattle.bep_frames.specs.declared.frame.Frame.{Frame}
use Rattle.bep_frames.specs.declared.frame.Frame.TheVariants.{Message as MessageFrame}
use Rattle.bep_frames.specs.declared.frame.Message.{Message}
use Rattle.bep_frames.specs.declared.frame.Message.TheVariants.{Index, IndexUpdate}
use Rattle.folder_core.specs.States.{FolderState, empty_folder}
use Rattle.folder_core.specs.declared.change.Change.{Change}
use Rattle.folder_core.specs.declared.change.Change.TheVariants.{IndexFull, IndexMore}
use Rattle.folder_core.specs.Steps.{step}
use Rattle.sync_names.specs.Refusal.{refusal}
use Rattle.sync_record.specs.Devices.{Identity}
use Rattle.sync_record.specs.Infos.{record_of}
use Rattle.sync_record.specs.Records.{FileRecord}

-- this device, and the one that sends the stream (own rule)
abbrev pub own_device : Identity
own_device = replicate 32 0

abbrev pub peer : Identity
peer = replicate 32 1

-- a record whose name is safe is kept; any other is skipped
abbrev pub is_kept : FileInfo → Bool
is_kept info = is_none (refusal info.name)

abbrev pub kept_records : List FileInfo → List FileRecord
kept_records files = map record_of (filter is_kept files)

abbrev pub skipped_records : List FileInfo → List FileInfo
skipped_records files = filter (λ info. not (is_kept info)) files

-- the change that a message is to the folder of this id, where it is one
abbrev pub message_changes : List ℕ → Message → List Change
message_changes folder (Index m) = if bytes_eq m.folder folder then IndexFull peer (kept_records m.files) ∷ [] else []
message_changes folder (IndexUpdate m) = if bytes_eq m.folder folder then IndexMore peer (kept_records m.files) ∷ [] else []
message_changes folder _ = []

-- the records of that message
abbrev pub message_files : List ℕ → Message → List FileInfo
message_files folder (Index m) = if bytes_eq m.folder folder then m.files else []
message_files folder (IndexUpdate m) = if bytes_eq m.folder folder then m.files else []
message_files folder _ = []

abbrev pub frame_changes : List ℕ → Frame → List Change
frame_changes folder (MessageFrame m) = message_changes folder m
frame_changes folder _ = []

abbrev pub frame_files : List ℕ → Frame → List FileInfo
frame_files folder (MessageFrame m) = message_files folder m
frame_files folder _ = []

-- the state after changes, one after the other
abbrev pub changed : FolderState → List Change → FolderState
changed s changes = fold (λ s change. (step s change).1) s changes

-- the folder after these frames, of which nothing was known before
abbrev pub folder_after : List ℕ → List Frame → FolderState
folder_after folder frames = changed (empty_folder own_device) (flat_map (frame_changes folder) frames)

-- how many of the records in these frames are skipped
abbrev pub skipped_count : List ℕ → List Frame → ℕ
skipped_count folder frames = length (skipped_records (flat_map (frame_files folder) frames))
