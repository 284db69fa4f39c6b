-- The answers of the calls of a folder with a history: what each result of the code says in the words of the rules.
use Rattle.std.specs.Prelude.{◌≡◌, ⊤, Option, Some, None, Result, Ok, Err}
use Rattle.folder_core.specs.declared.answer.Answer.{Answer}
use Rattle.folder_core.specs.declared.answer.Answer.TheVariants.{Busy, Moved, Unchanged, Recorded, CounterFull, SequenceFull, HistoryFull, Applied, NotNeeded, Unsupported, Begun, Stray, LocalMoved, Superseded, Entered}
use Rattle.folder_core.specs.declared.best.Best.{Best}
use Rattle.folder_core.specs.declared.scan.ScanAnswer.{ScanAnswer}
use Rattle.folder_core.specs.declared.scan.ScanAnswer.TheVariants as scan
use Rattle.folder_core.specs.declared.pull_info.PullInfo.{PullInfo}
use Rattle.folder_core.specs.Reads.{BestEntry}
use Rattle.folder_calls.specs.declared.at.At.{At}
use Rattle.folder_calls.specs.declared.pull.BeginAnswer.{BeginAnswer}
use Rattle.folder_calls.specs.declared.pull.BeginAnswer.TheVariants as begin
use Rattle.folder_calls.specs.declared.pull.EnterRefusal.{EnterRefusal}
use Rattle.folder_calls.specs.declared.pull.EnterRefusal.TheVariants as enter
use Rattle.folder_calls.specs.declared.refusal.HistoryFull.{HistoryFull as FullHistory}
use Rattle.folder_calls.specs.declared.refusal.ScanRefusal.{ScanRefusal}
use Rattle.folder_calls.specs.declared.refusal.ScanRefusal.TheVariants as refusal

-- the answer that was returned, at its point
abbrev pub answer_at : {X Y : Type 0} → (X → Y) → At X → At Y
answer_at f reply = record { at = reply.at; value = f reply.value }

-- the answer of a call that may be out of memory, if it isn't, at its point
abbrev pub answered_at : {X Y E : Type 0} → (X → Y) → Result (At X) E → Option (At Y)
answered_at f (Ok answer) = Some (answer_at f answer)
answered_at f (Err fault) = None

abbrev pub scan_value : Result ScanAnswer ScanRefusal → Answer
scan_value (Ok (scan.Recorded sequence)) = Recorded sequence
scan_value (Ok scan.Unchanged) = Unchanged
scan_value (Ok (scan.Moved now)) = Moved now
scan_value (Ok scan.Busy) = Busy
scan_value (Err refusal.CounterFull) = CounterFull
scan_value (Err refusal.SequenceFull) = SequenceFull
scan_value (Err refusal.HistoryFull) = HistoryFull

abbrev pub index_value : Result (Unit {0}) FullHistory → Answer
index_value (Ok done) = Applied
index_value (Err full) = HistoryFull

abbrev pub begin_value : Result BeginAnswer FullHistory → Answer
begin_value (Ok (begin.Begun ticket)) = Begun ticket
begin_value (Ok begin.NotNeeded) = NotNeeded
begin_value (Ok begin.Busy) = Busy
begin_value (Ok begin.Unsupported) = Unsupported
begin_value (Err full) = HistoryFull

abbrev pub enter_value : Result PullInfo EnterRefusal → Answer
enter_value (Ok commit) = Entered commit
enter_value (Err enter.Stray) = Stray
enter_value (Err (enter.LocalMoved ticket)) = LocalMoved
enter_value (Err (enter.Superseded ticket)) = Superseded
enter_value (Err (enter.SequenceFull ticket)) = SequenceFull
enter_value (Err (enter.HistoryFull ticket)) = HistoryFull

-- a ticket that isn't stray comes back
abbrev pub GivesBack : PullInfo → EnterRefusal → Type 0
GivesBack given enter.Stray = ⊤
GivesBack given (enter.LocalMoved ticket) = ticket ≡ given
GivesBack given (enter.Superseded ticket) = ticket ≡ given
GivesBack given (enter.SequenceFull ticket) = ticket ≡ given
GivesBack given (enter.HistoryFull ticket) = ticket ≡ given

-- the best with the devices that have it
abbrev pub best_entry : Best → BestEntry
best_entry b = (b.record, b.devices)
