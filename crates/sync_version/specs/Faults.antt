-- The numbers and names under which programs report faults (own rule).
use Rattle.std.specs.Prelude.{ℕ, List, codes}
use Rattle.sync_version.specs.declared.fault.RaiseFault.{RaiseFault}
use Rattle.sync_version.specs.declared.fault.RaiseFault.TheVariants.{CounterFull, OutOfMemory}

abbrev pub number_of : RaiseFault → ℕ
number_of CounterFull = 30
number_of OutOfMemory = 33

abbrev pub fault_name : RaiseFault → List ℕ
fault_name CounterFull = codes "CounterFull"
fault_name OutOfMemory = codes "OutOfMemory"
