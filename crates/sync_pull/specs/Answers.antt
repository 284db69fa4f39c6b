-- The names and numbers of what a pull comes to (own rule).
use Rattle.std.specs.Prelude.{ℕ, List, codes}
use Rattle.sync_pull.specs.declared.answer.PullFailure.{PullFailure}
use Rattle.sync_pull.specs.declared.answer.PullFailure.TheVariants.{StoreFault, NoSource, LocalChanged, ConflictNameTaken, NotEmpty, BadParent}
use Rattle.sync_pull.specs.declared.answer.PullRefusal.{PullRefusal}
use Rattle.sync_pull.specs.declared.answer.PullRefusal.TheVariants.{SequenceFull, HistoryFull, OutOfMemory, Stray}
use Rattle.sync_pull.specs.declared.answer.Stop.{Stop}
use Rattle.sync_pull.specs.declared.answer.Stop.TheVariants as stop
use Rattle.file_store.specs.declared.refusal.StoreRefusal.{StoreRefusal}
use Rattle.file_store.specs.declared.refusal.StoreRefusal.TheVariants as refused

abbrev pub refusal_number : PullRefusal → ℕ
refusal_number SequenceFull = 31
refusal_number HistoryFull = 32
refusal_number OutOfMemory = 33
refusal_number Stray = 34

abbrev pub failure_number : PullFailure → ℕ
failure_number StoreFault = 40
failure_number NoSource = 41
failure_number LocalChanged = 42
failure_number ConflictNameTaken = 43
failure_number NotEmpty = 44
failure_number BadParent = 45

abbrev pub refusal_name : PullRefusal → List ℕ
refusal_name SequenceFull = codes "SequenceFull"
refusal_name HistoryFull = codes "HistoryFull"
refusal_name OutOfMemory = codes "OutOfMemory"
refusal_name Stray = codes "Stray"

abbrev pub failure_name : PullFailure → List ℕ
failure_name StoreFault = codes "StoreFault"
failure_name NoSource = codes "NoSource"
failure_name LocalChanged = codes "LocalChanged"
failure_name ConflictNameTaken = codes "ConflictNameTaken"
failure_name NotEmpty = codes "NotEmpty"
failure_name BadParent = codes "BadParent"

-- why a pull stops where the store refuses a call
abbrev pub stop_of : StoreRefusal → Stop
stop_of refused.StoreFault = stop.Failed StoreFault
stop_of refused.NotEmpty = stop.Failed NotEmpty
stop_of refused.BadParent = stop.Failed BadParent
stop_of refused.OutOfMemory = stop.OutOfMemory
