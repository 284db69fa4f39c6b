-- What is counted of the scans of all names, and what stops them (own rule).
use Rattle.std.specs.Prelude.{◌≡◌, ◌⊎◌, ℕ, ◌+◌, ◌-◌, ◌^◌, ◌<◌, min, List, codes, Option, Some, None, Result, Ok, Err}
use Rattle.folder_core.specs.declared.scan.ScanAnswer.TheVariants.{Recorded, Unchanged, Moved, Busy}
use Rattle.folder_calls.specs.declared.refusal.ScanRefusal.TheVariants.{CounterFull, SequenceFull, HistoryFull}
use Rattle.file_store.specs.declared.refusal.StoreRefusal.{StoreRefusal}
use Rattle.file_store.specs.declared.refusal.StoreRefusal.TheVariants.{StoreFault, NotEmpty, BadParent, OutOfMemory}
use Rattle.sync_scan.specs.declared.scanned.Scanned.{Scanned}
use Rattle.sync_scan.specs.declared.scanned.Scanned.TheVariants.{Answered, Skipped, Changing}
use Rattle.sync_scan.specs.declared.sum.ScanStop.{ScanStop}
use Rattle.sync_scan.specs.declared.sum.ScanStop.TheVariants as stop
use Rattle.sync_scan.specs.declared.sum.ScanSum.{ScanSum}

abbrev pub stop_number : ScanStop → ℕ
stop_number stop.SequenceFull = 31
stop_number stop.HistoryFull = 32
stop_number stop.OutOfMemory = 33
stop_number stop.StoreFault = 40

abbrev pub stop_name : ScanStop → List ℕ
stop_name stop.SequenceFull = codes "SequenceFull"
stop_name stop.HistoryFull = codes "HistoryFull"
stop_name stop.OutOfMemory = codes "OutOfMemory"
stop_name stop.StoreFault = codes "StoreFault"

-- what stops the scan if the names are not listed
abbrev pub stop_by : StoreRefusal → ScanStop
stop_by StoreFault = stop.StoreFault
stop_by NotEmpty = stop.StoreFault
stop_by BadParent = stop.StoreFault
stop_by OutOfMemory = stop.OutOfMemory

-- what stops the scan after that of a name
abbrev pub stop_of : Result Scanned StoreRefusal → Option ScanStop
stop_of (Ok (Answered (Ok answer))) = None
stop_of (Ok (Answered (Err CounterFull))) = None
stop_of (Ok (Answered (Err SequenceFull))) = Some stop.SequenceFull
stop_of (Ok (Answered (Err HistoryFull))) = Some stop.HistoryFull
stop_of (Ok Skipped) = None
stop_of (Ok Changing) = None
stop_of (Err StoreFault) = None
stop_of (Err NotEmpty) = None
stop_of (Err BadParent) = None
stop_of (Err OutOfMemory) = Some stop.OutOfMemory

abbrev pub empty_sum : ScanSum
empty_sum = record { recorded = 0; unchanged = 0; other = 0; stopped = None }

-- one more, up to the greatest count
abbrev pub one_more : ℕ → ℕ
one_more n = min (n + 1) (2 ^ 64 - 1)

-- a name for which the scan stops is not counted
abbrev pub counted_other : ScanSum → Option ScanStop → ScanSum
counted_other sum None = record sum { other = one_more sum.other }
counted_other sum (Some stopped) = record sum { stopped = Some stopped }

-- one name more: recorded, unchanged, or anything else
abbrev pub counted : ScanSum → Result Scanned StoreRefusal → ScanSum
counted sum (Ok (Answered (Ok (Recorded sequence)))) = record sum { recorded = one_more sum.recorded }
counted sum (Ok (Answered (Ok Unchanged))) = record sum { unchanged = one_more sum.unchanged }
counted sum (Ok (Answered (Ok (Moved now)))) = counted_other sum None
counted sum (Ok (Answered (Ok Busy))) = counted_other sum None
counted sum (Ok (Answered (Err refusal))) = counted_other sum (stop_of (Ok (Answered (Err refusal))))
counted sum (Ok Skipped) = counted_other sum None
counted sum (Ok Changing) = counted_other sum None
counted sum (Err refusal) = counted_other sum (stop_of (Err refusal))

-- a fault was counted: the count of faults rose, or is at its greatest value
abbrev pub IsFaultCounted : ℕ → ℕ → Type 0
IsFaultCounted before after = (before < after) ⊎ (after ≡ 2 ^ 64 - 1)
