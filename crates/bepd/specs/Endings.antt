-- How `bepd best` ends (own rule).
use Rattle.std.specs.Prelude.{◌≡◌, ◌⊎◌, ℕ, ◌^◌, ◌<◌, ◌≤◌, false, List, [], ◌++◌, length, Option, Result, Ok, Err, ⊤, codes, decimal}
use Rattle.std.specs.Io.KnownBytes.{Keeps}
use Rattle.bep_frames.specs.declared.fault.FrameFault.{FrameFault}
use Rattle.bep_frames.specs.Stream.{stream}
use Rattle.bep_frames.specs.Faults.{frame_fault_name, frame_fault_number}
use Rattle.bepd.specs.Counts.{Input, Output, WritesSome, count_more}
use Rattle.bepd.specs.declared.ending.Ending.{Ending}
use Rattle.bepd.specs.declared.ending.Ending.TheVariants.{Done, Rest, Fault, Failed}
use Rattle.bepd.specs.declared.ending.Failure.{Failure}
use Rattle.bepd.specs.declared.ending.Failure.TheVariants.{OutOfMemory, Read, Write}

-- the most bytes of an input
abbrev pub max_input_bytes : ℕ
max_input_bytes = 2 ^ 40

abbrev pub failure_status : Failure → ℕ
failure_status OutOfMemory = 4
failure_status Read = 5
failure_status Write = 5

abbrev pub status_of : Ending → ℕ
status_of Done = 0
status_of (Fault fault) = 2
status_of (Rest count) = 3
status_of (Failed failure) = failure_status failure

-- The lines for standard error.

abbrev pub failure_text : Failure → List ℕ
failure_text OutOfMemory = codes "fault 33 OutOfMemory"
failure_text Read = codes "fault read or write"
failure_text Write = codes "fault read or write"

abbrev pub ending_text : Ending → List ℕ
ending_text Done = []
ending_text (Rest count) = codes "rest " ++ decimal count
ending_text (Fault e) = codes "fault " ++ decimal (frame_fault_number e) ++ codes " " ++ frame_fault_name e
ending_text (Failed failure) = failure_text failure

-- the listing was written whole
abbrev pub IsListed : Ending → Type 0
IsListed (Failed failure) = ⊥
IsListed _ = ⊤

-- how a stream ends: with a whole frame, with so many bytes after the last one, or with a fault
abbrev pub IsEndOf : Result (List ℕ) FrameFault → Ending → Type 0
IsEndOf (Ok rest) Done = length rest ≡ 0
IsEndOf (Ok rest) (Rest count) = (0 < count) × (count ≡ length rest)
IsEndOf (Err e) (Fault fault) = fault ≡ e
IsEndOf _ _ = ⊥

-- the bytes before a last piece, of 65,536 bytes at most, show no fault
pub record EndsInPiece (bytes : List ℕ) : Type 0 where
  pub before : List ℕ
  pub piece : List ℕ
  pub split : bytes ≡ before ++ piece
  pub size : length piece ≤ 65536
  pub rest : List ℕ
  pub sound : (stream false before).end ≡ Ok rest

-- nothing is read after the piece that shows a fault
abbrev pub StopsAtFault : List ℕ → Ending → Type 0
StopsAtFault bytes (Fault fault) = EndsInPiece bytes
StopsAtFault bytes _ = ⊤

-- what a failure leaves of the bytes that were to be written: none of them were written after a failed read, else a front
abbrev pub WritesFront : Failure → List ℕ → Option (List ℕ) → Option (List ℕ) → Type 0
WritesFront OutOfMemory bytes old new = WritesSome bytes old new
WritesFront Read bytes old new = Keeps old new
WritesFront Write bytes old new = WritesSome bytes old new

-- the ending says that a read failed just where one did, or where more bytes were read than an input may have
abbrev pub TellsFailedRead : Ending → List ℕ → Input → Input → Type 0
TellsFailedRead (Failed Read) bytes old new = (new.failed ≡ count_more old.failed 1) ⊎ ((new.failed ≡ old.failed) × (max_input_bytes < length bytes))
TellsFailedRead _ bytes old new = new.failed ≡ old.failed

-- and that a write failed just where one did
abbrev pub TellsFailedWrite : Ending → Output → Output → Type 0
TellsFailedWrite (Failed Write) old new = new.failed ≡ count_more old.failed 1
TellsFailedWrite _ old new = new.failed ≡ old.failed

-- how many writes failed, after what was written so
abbrev pub failed_writes_after : Result (Unit {0}) Failure → ℕ → ℕ
failed_writes_after (Err Write) n = count_more n 1
failed_writes_after _ n = n
