-- The numbers and names under which programs report what a folder refuses (own rule).
use Rattle.std.specs.Prelude.{ℕ, List, codes}
use Rattle.folder_core.specs.declared.restore_fault.RestoreFault.{RestoreFault}
use Rattle.folder_core.specs.declared.restore_fault.RestoreFault.TheVariants as restore
use Rattle.folder_core.specs.declared.scan.ScanFault.{ScanFault}
use Rattle.folder_core.specs.declared.scan.ScanFault.TheVariants.{CounterFull, SequenceFull, OutOfMemory}

abbrev pub scan_fault_number : ScanFault → ℕ
scan_fault_number CounterFull = 30
scan_fault_number SequenceFull = 31
scan_fault_number OutOfMemory = 33

abbrev pub scan_fault_name : ScanFault → List ℕ
scan_fault_name CounterFull = codes "CounterFull"
scan_fault_name SequenceFull = codes "SequenceFull"
scan_fault_name OutOfMemory = codes "OutOfMemory"

abbrev pub stray_number : ℕ
stray_number = 34

abbrev pub stray_name : List ℕ
stray_name = codes "Stray"

abbrev pub restore_fault_name : RestoreFault → List ℕ
restore_fault_name restore.BadRecords = codes "BadRecords"
restore_fault_name restore.OutOfMemory = codes "OutOfMemory"
