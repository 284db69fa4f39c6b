-- What the program does for a command line (own rule).
use Rattle.std.specs.Prelude.{◌≡◌, ℕ, ◌⊎◌, false, List, [], ◌++◌, Option, Result, Ok, Err, OnOk, IfSome, codes}
use Rattle.std.specs.Io.KnownBytes.{Appends}
use Rattle.std.specs.String.{string_bytes}
use Rattle.bep_frames.specs.Stream.{stream}
use Rattle.bepd.specs.declared.command.Request.{Request}
use Rattle.bepd.specs.declared.command.Request.TheVariants.{Ask, Best, Check, New, Pair, QuietRun, Run, Text, Refused, OutOfMemory}
use Rattle.bepd.specs.declared.ending.Ending.{Ending}
use Rattle.bepd.specs.declared.ending.Ending.TheVariants.{Done, Failed}
use Rattle.bepd.specs.declared.ending.Failure.TheVariants as failure
use Rattle.bepd.specs.declared.run.Outcome.{Outcome}
use Rattle.bepd.specs.Counts.{Input, Output, Reads, count_more}
use Rattle.bepd.specs.Endings.{IsEndOf, IsListed, TellsFailedRead, TellsFailedWrite, ending_text, status_of}
use Rattle.bepd.specs.Listing.{Answers, listing}
use Rattle.bepd.specs.Playing.{played_ending}
use Rattle.bepd_pair.specs.Playing.{Plays as AnyPlays}
use Rattle.bepd_pair.specs.declared.playing.PairFailure.{PairFailure}
use Rattle.bepd_run.specs.Failures.{run_failure_status, run_failure_text}
use Rattle.bepd_run.specs.declared.failure.RunFailure.{RunFailure}

-- The standard streams: the input and the output with what they count, and the bytes of standard error, where they are known.
pub record Streams : Type 0 where
  pub input : Input
  pub output : Output
  pub errors : Option (List ℕ)

abbrev pub streams : Input → Output → Option (List ℕ) → Streams
streams input output errors = record { input = input; output = output; errors = errors }

-- the line of an ending; there is none where all is done
abbrev pub ending_line : Ending → List ℕ
ending_line Done = []
ending_line ending = ending_text ending ++ codes "\n"

-- the status of the ending, and its line on standard error, if that took it
pub record Ends (ending : Ending) (outcome : Outcome) (old new : Option (List ℕ)) : Type 0 where
  pub status : outcome.status ≡ status_of ending
  pub line : OnOk outcome.reported (Appends old new (ending_line ending))

-- the folder is listed from the input
pub record Lists (folder : List ℕ) (outcome : Outcome) (old new : Streams) : Type 0 where
  pub ending : Ending
  pub bytes : List ℕ
  pub reads : Reads bytes old.input new.input
  pub failed_read : TellsFailedRead ending bytes old.input new.input
  pub failed_write : TellsFailedWrite ending old.output new.output
  pub answers : Answers folder bytes ending old.output.bytes new.output.bytes
  pub known : IfSome old.input.left (λ input. IsListed ending →
      IsEndOf (stream false input).end ending × Appends old.output.bytes new.output.bytes (listing folder input))
  pub ends : Ends ending outcome old.errors new.errors

-- two peers did the commands of the input
pub record Plays (outcome : Outcome) (old new : Streams) : Type 0 where
  pub played : Result (Unit {0}) PairFailure
  pub plays : AnyPlays played old.input.left new.input.left old.output.bytes new.output.bytes
  pub ends : Ends (played_ending played) outcome old.errors new.errors

-- how a node's program ends; what the node does, no clause says
abbrev pub EndsRun : Result (Unit {0}) RunFailure → Outcome → Option (List ℕ) → Option (List ℕ) → Type 0
EndsRun (Ok done) outcome old new = (outcome.status ≡ 0) × (new ≡ old)
EndsRun (Err failure) outcome old new = (outcome.status ≡ run_failure_status failure)
    × OnOk outcome.reported (Appends old new (run_failure_text failure ++ codes "\n"))

-- the same of a node that tells what happens: standard error has its line after what the node told, which no clause says either
abbrev pub TellsRun : Outcome → Streams → Streams → Type 0
TellsRun outcome old new = (ran : Result (Unit {0}) RunFailure) × (told : Option (List ℕ)) × EndsRun ran outcome told new.errors

-- a node's program ends as some node ended
abbrev pub RunsNode : Outcome → Streams → Streams → Type 0
RunsNode outcome old new = (ran : Result (Unit {0}) RunFailure) × EndsRun ran outcome old.errors new.errors

-- the text goes to standard output, or a write of it failed
abbrev pub Shows : List ℕ → Outcome → Output → Output → Option (List ℕ) → Option (List ℕ) → Type 0
Shows text outcome old_output new_output old_errors new_errors =
    ((outcome.status ≡ 0) × (new_output.failed ≡ old_output.failed) × Appends old_output.bytes new_output.bytes text)
    ⊎ ((new_output.failed ≡ count_more old_output.failed 1) × Ends (Failed failure.Write) outcome old_errors new_errors)

-- what is done for a request: nothing is read or written but this
abbrev pub Does : Request → Outcome → Streams → Streams → Type 0
Does (Best folder) outcome old new = Lists folder.now outcome old new
Does Pair outcome old new = Plays outcome old new
Does (Run run) outcome old new = TellsRun outcome old new
Does (QuietRun run) outcome old new = RunsNode outcome old new
Does (Check path) outcome old new = (new.input ≡ old.input) × RunsNode outcome old new
Does (Ask words) outcome old new = (new.input ≡ old.input) × RunsNode outcome old new
Does (New words) outcome old new = (new.input ≡ old.input) × RunsNode outcome old new
Does (Text text) outcome old new =
    (new.input ≡ old.input) × Shows (string_bytes text) outcome old.output new.output old.errors new.errors
Does (Refused text) outcome old new = (new.input ≡ old.input) × (new.output ≡ old.output) × (outcome.status ≡ 1)
    × OnOk outcome.reported (Appends old.errors new.errors (string_bytes text))
Does OutOfMemory outcome old new =
    (new.input ≡ old.input) × (new.output ≡ old.output) × Ends (Failed failure.OutOfMemory) outcome old.errors new.errors
