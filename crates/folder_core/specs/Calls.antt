-- The answers of the calls of a folder: what each result of the code says in the words of the rules.
use Rattle.std.specs.Prelude.{◌≡◌, ℕ, ⊤, Bool, true, false, Option, Some, None, Result, Ok, Err}
use Rattle.std.specs.declared.alloc.AllocError.{AllocError}
use Rattle.folder_core.specs.declared.pull.BeginAnswer.{BeginAnswer}
use Rattle.folder_core.specs.declared.pull.BeginAnswer.TheVariants as begin
use Rattle.folder_core.specs.declared.pull.EnterFault.{EnterFault}
use Rattle.folder_core.specs.declared.pull.EnterFault.TheVariants as enter
use Rattle.folder_core.specs.declared.pull.Stray.{Stray as StrayCommit}
use Rattle.folder_core.specs.declared.scan.ScanAnswer.{ScanAnswer}
use Rattle.folder_core.specs.declared.scan.ScanAnswer.TheVariants as scan
use Rattle.folder_core.specs.declared.scan.ScanFault.{ScanFault}
use Rattle.folder_core.specs.declared.scan.ScanFault.TheVariants as fault
use Rattle.folder_core.specs.States.{FolderState}
use Rattle.folder_core.specs.declared.answer.Answer.{Answer}
use Rattle.folder_core.specs.declared.answer.Answer.TheVariants.{Busy, Moved, Unchanged, Recorded, CounterFull, SequenceFull, Applied, NotNeeded, Unsupported, Begun, Stray, LocalMoved, Superseded, Entered, Done, Closed}
use Rattle.folder_core.specs.declared.change.Change.{Change}
use Rattle.folder_core.specs.declared.pull_info.PullInfo.{PullInfo}
use Rattle.folder_core.specs.Steps.{step}

-- A change of a state gives this answer and leaves the new state. Without an answer it is out of memory, and nothing
-- changed.
abbrev pub Changes : FolderState → Change → Option Answer → FolderState → Type 0
Changes old change (Some answer) new = step old change ≡ (answer, new)
Changes old change None new = new ≡ old

abbrev pub scan_answer : Result ScanAnswer ScanFault → Option Answer
scan_answer (Ok (scan.Recorded sequence)) = Some (Recorded sequence)
scan_answer (Ok scan.Unchanged) = Some Unchanged
scan_answer (Ok (scan.Moved now)) = Some (Moved now)
scan_answer (Ok scan.Busy) = Some Busy
scan_answer (Err fault.CounterFull) = Some CounterFull
scan_answer (Err fault.SequenceFull) = Some SequenceFull
scan_answer (Err fault.OutOfMemory) = None

abbrev pub index_answer : Result (Unit {0}) AllocError → Option Answer
index_answer (Ok done) = Some Applied
index_answer (Err fault) = None

abbrev pub begin_answer : Result BeginAnswer AllocError → Option Answer
begin_answer (Ok (begin.Begun ticket)) = Some (Begun ticket)
begin_answer (Ok begin.NotNeeded) = Some NotNeeded
begin_answer (Ok begin.Busy) = Some Busy
begin_answer (Ok begin.Unsupported) = Some Unsupported
begin_answer (Err fault) = None

abbrev pub enter_answer : Result PullInfo EnterFault → Option Answer
enter_answer (Ok commit) = Some (Entered commit)
enter_answer (Err enter.Stray) = Some Stray
enter_answer (Err (enter.LocalMoved ticket)) = Some LocalMoved
enter_answer (Err (enter.Superseded ticket)) = Some Superseded
enter_answer (Err (enter.SequenceFull ticket)) = Some SequenceFull
enter_answer (Err (enter.OutOfMemory ticket)) = None

-- a ticket that isn't stray comes back
abbrev pub GivesBack : PullInfo → EnterFault → Type 0
GivesBack given enter.Stray = ⊤
GivesBack given (enter.LocalMoved ticket) = ticket ≡ given
GivesBack given (enter.Superseded ticket) = ticket ≡ given
GivesBack given (enter.SequenceFull ticket) = ticket ≡ given
GivesBack given (enter.OutOfMemory ticket) = ticket ≡ given

abbrev pub finish_answer : Result ℕ StrayCommit → Answer
finish_answer (Ok sequence) = Done sequence
finish_answer (Err stray) = Stray

abbrev pub close_answer : Bool → Answer
close_answer true = Closed
close_answer false = Stray

-- With these answers a scan, a begin or an entered commit makes something new: a record that is kept, a version, a
-- ticket or a commit. With every other one it needs no memory.
abbrev pub may_allocate : Answer → Bool
may_allocate (Recorded sequence) = true
may_allocate (Moved (Some version)) = true
may_allocate (Begun ticket) = true
may_allocate (Entered commit) = true
may_allocate _ = false

-- these answers have a version or say something of a pull, for which a copy allocates
abbrev pub copy_allocates : Answer → Bool
copy_allocates (Moved (Some version)) = true
copy_allocates (Begun ticket) = true
copy_allocates (Entered commit) = true
copy_allocates _ = false
