-- The lines that commands print (own rule). A text is its bytes in UTF-8.
use Rattle.std.specs.Prelude.{ℕ, List, ◌++◌, codes, decimal}
use Rattle.record_lines.specs.Lines.{name_text, record_text}
use Rattle.sync_names.specs.Faults.{fault_name, number_of}
use Rattle.sync_record.specs.Records.{FileRecord, Name}
use Rattle.sync_pull.specs.Answers.{failure_number, refusal_number}
use Rattle.sync_pull.specs.declared.answer.PullAnswer.{PullAnswer}
use Rattle.sync_pull.specs.declared.answer.PullAnswer.TheVariants as pull
use Rattle.sync_scan.specs.Stops.{stop_name, stop_number}
use Rattle.sync_scan.specs.declared.sum.ScanSum.{ScanSum}
use Rattle.bepd_pair.specs.declared.command.Side.{Side}
use Rattle.bepd_pair.specs.declared.refused.Refused.{Refused}
use Rattle.bepd_pair.specs.declared.refused.Refused.TheVariants as refused
use Rattle.bepd_pair.specs.Commands.{letter_of}

-- a number and a name, of an error
abbrev pub error_text : ℕ → List ℕ → List ℕ
error_text number name = codes "error " ++ decimal number ++ codes " " ++ name

abbrev pub refused_text : Refused → List ℕ
refused_text refused.UnknownCommand = codes "error unknown command"
refused_text (refused.Name fault) = error_text (number_of fault) (fault_name fault)
refused_text (refused.Scan stop) = error_text (stop_number stop) (stop_name stop)
refused_text refused.HistoryFull = codes "error 32 HistoryFull"
refused_text refused.OutOfMemory = codes "error 33 OutOfMemory"

abbrev pub refused_line : Refused → List ℕ
refused_line refused = refused_text refused ++ codes "\n"

-- ` recorded R unchanged U other O`
abbrev pub counts_text : ScanSum → List ℕ
counts_text sum =
    codes " recorded " ++ decimal sum.recorded ++ (codes " unchanged " ++ decimal sum.unchanged) ++ (codes " other " ++ decimal sum.other)

-- `scan P` and that
abbrev pub scan_line : Side → ScanSum → List ℕ
scan_line side sum = codes "scan " ++ letter_of side ++ counts_text sum ++ codes "\n"

-- `sync A>B N B>A M`
abbrev pub sync_line : ℕ → ℕ → List ℕ
sync_line to_b to_a = codes "sync A>B " ++ decimal to_b ++ codes " B>A " ++ decimal to_a ++ codes "\n"

abbrev pub answer_text : PullAnswer → List ℕ
answer_text (pull.Done sequence) = codes "done " ++ decimal sequence
answer_text pull.NotNeeded = codes "notneeded"
answer_text pull.Busy = codes "busy"
answer_text pull.Unsupported = codes "unsupported"
answer_text pull.LocalMoved = codes "moved"
answer_text pull.Superseded = codes "superseded"
answer_text (pull.Refused refusal) = codes "refused " ++ decimal (refusal_number refusal)
answer_text (pull.Failed failure) = codes "failed " ++ decimal (failure_number failure)

-- `pull P ANSWER NAME`
abbrev pub pull_line : Side → PullAnswer → Name → List ℕ
pull_line side answer name =
    codes "pull " ++ letter_of side ++ codes " " ++ answer_text answer ++ codes " " ++ name_text name ++ codes "\n"

-- `local P KIND SIZE VERSION NAME`
abbrev pub local_line : Side → FileRecord → List ℕ
local_line side record' = codes "local " ++ letter_of side ++ codes " " ++ record_text record' ++ codes "\n"
