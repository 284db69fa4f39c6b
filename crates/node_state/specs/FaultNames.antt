-- The numbers and names under which programs report faults (own rule).
use Rattle.std.specs.Prelude.{ℕ, List, codes}
use Rattle.node_state.specs.declared.fault.StateFault.{StateFault}
use Rattle.node_state.specs.declared.fault.StateFault.TheVariants.{BadState, OutOfMemory}

abbrev pub state_fault_number : StateFault → ℕ
state_fault_number (BadState problem) = 61
state_fault_number OutOfMemory = 33

abbrev pub state_fault_name : StateFault → List ℕ
state_fault_name (BadState problem) = codes "BadState"
state_fault_name OutOfMemory = codes "OutOfMemory"
