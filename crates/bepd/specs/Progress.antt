-- How far the reading of a stream has come.
use Rattle.std.specs.Prelude.{◌≡◌, ℕ, ◌+◌, ◌≤◌, false, List, [], ◌∷◌, ◌++◌, length, Option, Some, None, Ok, Err, IfSome}
use Rattle.bep_frames.specs.declared.frame.Frame.{Frame}
use Rattle.bep_messages.specs.declared.file_info.FileInfo.{FileInfo}
use Rattle.bep_frames.specs.State.{State, fed, remaining, with_front}
use Rattle.bep_frames.specs.Stream.{ended, stream}
use Rattle.bep_frames.specs.declared.fault.FrameFault.{FrameFault}
use Rattle.bepd.specs.Counts.{Input, Reads}
use Rattle.bepd.specs.declared.ending.Ending.{Ending}
use Rattle.bepd.specs.Endings.{IsEndOf, StopsAtFault, max_input_bytes}
use Rattle.folder_core.specs.Announced.{IsNamed}
use Rattle.folder_core.specs.States.{FolderState}
use Rattle.folder_core.specs.declared.change.Change.{Change}
use Rattle.folder_core.specs.declared.change.Change.TheVariants.{IndexFull, IndexMore}
use Rattle.bepd.specs.declared.received.IndexMessage.{IndexMessage}
use Rattle.bepd.specs.declared.received.IndexMessage.TheVariants.{All, More}
use Rattle.bepd.specs.Received.{peer, kept_records, frame_changes, frame_files, folder_after, skipped_count}

-- what a frame announces of the folder
abbrev pub Announces : Option IndexMessage → List Change → List FileInfo → Type 0
Announces None changes files = (changes ≡ []) × (files ≡ [])
Announces (Some (All announced)) changes files = (changes ≡ IndexFull peer (kept_records announced) ∷ []) × (files ≡ announced)
Announces (Some (More announced)) changes files = (changes ≡ IndexMore peer (kept_records announced) ∷ []) × (files ≡ announced)

abbrev pub IsAnnounced : Option IndexMessage → List ℕ → Frame → Type 0
IsAnnounced announced folder f = Announces announced (frame_changes folder f) (frame_files folder f)

-- what was kept of these frames: the folder after them, and how many records were skipped
pub record IsReceived (folder : List ℕ) (frames : List Frame) (s : FolderState) (skipped : ℕ) : Type 0 where
  pub state : s ≡ folder_after folder frames
  pub named : IsNamed s.announced
  pub counted : skipped ≡ skipped_count folder frames

-- the same of the frames that a reader gave of these bytes
pub record IsReceivedOf (folder bytes : List ℕ) (reader : State) (s : FolderState) (skipped : ℕ) : Type 0 where
  pub frames : List Frame
  pub received : IsReceived folder frames s skipped
  pub remains : (more : List ℕ) → with_front frames (remaining (fed reader more)) ≡ stream false (bytes ++ more)
  pub fits : skipped + length reader.rest ≤ length bytes
  pub later : reader.hello ≡ false

-- a reader has given all that it can: a rest is left, or a fault was found
abbrev pub Leaves : State → Option FrameFault → Type 0
Leaves reader None = remaining (fed reader []) ≡ ended (Ok reader.rest)
Leaves reader (Some fault) = (more : List ℕ) → remaining (fed reader more) ≡ ended (Err fault)

-- A stream was read up to its end, or up to its first fault, and no read failed.
pub record IsRead (folder : List ℕ) (old new : Input) (ending : Ending) (s : FolderState) (skipped : ℕ) : Type 0 where
  pub bytes : List ℕ
  pub reads : Reads bytes old new
  pub none_failed : new.failed ≡ old.failed
  pub within : length bytes ≤ max_input_bytes
  pub received : IsReceived folder (stream false bytes).frames s skipped
  pub end : IsEndOf (stream false bytes).end ending
  pub stops : StopsAtFault bytes ending
  pub whole : IfSome new.left (λ rest. stream false (bytes ++ rest) ≡ stream false bytes)
