-- The laws, as the functions of src/laws.rt state them, for the proofs of other crates.
use Rattle.std.specs.Prelude.{◌≢◌}
use Rattle.std.proofs.Common.{◌≡◌, ℕ, ◌+◌, ◌<◌, Bool, true, false, List, [], ◌++◌, length, None, Some, Ok, Err, Result, refl}
use Rattle.bep_messages.specs.declared.index.Index.{Index}
use Rattle.bep_messages.specs.declared.index_update.IndexUpdate.{IndexUpdate}
use Rattle.bep_frames.specs.declared.fault.FrameFault.{FrameFault}
use Rattle.bep_frames.specs.declared.fault.FrameFault.TheVariants.{OutOfMemory}
use Rattle.bep_frames.specs.declared.frame.Frame.{Frame}
use Rattle.bep_frames.specs.declared.frame.Frame.TheVariants.{Message as MessageFrame}
use Rattle.bep_frames.specs.declared.frame.Message.TheVariants.{Index as IndexMessage, IndexUpdate as IndexUpdateMessage}
use Rattle.bep_frames.specs.Grammar.{Begins, IsFrame}
use Rattle.bep_frames.specs.Stream.{Splits, ended, first_then, stream}
use Rattle.bep_frames.specs.State.{State, start, fed, Gives, remaining}
use Rattle.bep_frames.proofs.Readings as readings
use Rattle.bep_frames.proofs.Runs as runs
use Rattle.bep_frames.proofs.Counts as counts
-- one more frame in front
pub use Rattle.bep_frames.proofs.Runs.{front_push}

pub reading_is_read : (due : Bool) (bytes : List ℕ) → Splits due bytes (stream due bytes).frames (stream due bytes).end
reading_is_read = readings.stream_splits

pub only_reading : (due : Bool) (bytes : List ℕ) (frames : List Frame) (end : Result (List ℕ) FrameFault) → Splits due bytes frames end → (frames ≡ (stream due bytes).frames) × (end ≡ (stream due bytes).end)
only_reading = readings.only_splits

pub no_hello_begins_another : (bytes rest : List ℕ) (f g : Frame) → IsFrame true bytes f → IsFrame true (bytes ++ rest) g → rest ≡ []
no_hello_begins_another = readings.no_beginning true

pub no_later_begins_another : (bytes rest : List ℕ) (f g : Frame) → IsFrame false bytes f → IsFrame false (bytes ++ rest) g → rest ≡ []
no_later_begins_another = readings.no_beginning false

-- ---- what a reader gives and what it has yet to give

pub fed_pieces : (s : State) (a b : List ℕ) → fed (fed s a) b ≡ fed s (a ++ b)
fed_pieces = runs.fed_fed

pub start_remaining : (due : Bool) (bytes : List ℕ) → remaining (fed (start due) bytes) ≡ stream due bytes
start_remaining due bytes = refl

pub given_frame : (old new : State) (f : Frame) (more : List ℕ) → Gives old (Some (Ok f)) new → remaining (fed old more) ≡ first_then f (remaining (fed new more))
given_frame = runs.after_frame

pub given_fault : (old new : State) (e : FrameFault) (more : List ℕ) → Gives old (Some (Err e)) new → e ≢ OutOfMemory → (remaining (fed new more) ≡ remaining (fed old more)) × (remaining (fed new more) ≡ ended (Err e))
given_fault old new e more gives not =
    let fault = runs.gives_fault old new e gives not in
    (runs.after_fault old new e more fault, runs.fault_ends old new e more fault)

-- an error leaves the unread bytes
pub given_error_keeps : (old new : State) (e : FrameFault) → Gives old (Some (Err e)) new → (new.rest ≡ old.rest) × (new.hello ≡ old.hello)
given_error_keeps = runs.error_keeps

pub given_none : (s new : State) → Gives s None new → remaining (fed s []) ≡ ended (Ok s.rest)
given_none = runs.none_ends

-- a frame takes a byte at least
pub given_shorter : (old new : State) (f : Frame) → Gives old (Some (Ok f)) new → length new.rest < length old.rest
given_shorter = runs.shorter

-- ---- a message has fewer records than its frame has bytes

pub index_records_few : (bytes rest : List ℕ) (m : Index) → Begins false bytes (MessageFrame (IndexMessage m)) rest → length m.files + length rest < length bytes
index_records_few = counts.index_records

pub update_records_few : (bytes rest : List ℕ) (m : IndexUpdate) → Begins false bytes (MessageFrame (IndexUpdateMessage m)) rest → length m.files + length rest < length bytes
update_records_few = counts.update_records

pub frame_shorter : (due : Bool) (bytes rest : List ℕ) (f : Frame) → Begins due bytes f rest → length rest < length bytes
frame_shorter due bytes rest f = readings.begins_shorter due bytes f rest
