-- The numbers and names under which programs report what calls of a folder with a history refuse (own rule).
use Rattle.std.specs.Prelude.{ℕ, List, codes}
use Rattle.folder_calls.specs.declared.refusal.ScanRefusal.{ScanRefusal}
use Rattle.folder_calls.specs.declared.refusal.ScanRefusal.TheVariants.{CounterFull, SequenceFull, HistoryFull}

abbrev pub history_full_number : ℕ
history_full_number = 32

abbrev pub history_full_name : List ℕ
history_full_name = codes "HistoryFull"

abbrev pub scan_refusal_number : ScanRefusal → ℕ
scan_refusal_number CounterFull = 30
scan_refusal_number SequenceFull = 31
scan_refusal_number HistoryFull = 32

abbrev pub scan_refusal_name : ScanRefusal → List ℕ
scan_refusal_name CounterFull = codes "CounterFull"
scan_refusal_name SequenceFull = codes "SequenceFull"
scan_refusal_name HistoryFull = codes "HistoryFull"
