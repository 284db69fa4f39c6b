-- The numbers and names under which programs report faults (own rule).
use Rattle.std.specs.Prelude.{ℕ, List, codes}
use Rattle.bep_wire.specs.declared.fault.WireFault.{WireFault}
use Rattle.bep_wire.specs.declared.fault.WireFault.TheVariants.{Truncated, LongVarint, BadKey, Group}
use Rattle.bep_wire.specs.declared.fault.FieldsFault.{FieldsFault}
use Rattle.bep_wire.specs.declared.fault.FieldsFault.TheVariants.{Wire, OutOfMemory}

abbrev pub wire_fault_number : WireFault → ℕ
wire_fault_number Truncated = 1
wire_fault_number LongVarint = 2
wire_fault_number BadKey = 3
wire_fault_number Group = 4

abbrev pub wire_fault_name : WireFault → List ℕ
wire_fault_name Truncated = codes "Truncated"
wire_fault_name LongVarint = codes "LongVarint"
wire_fault_name BadKey = codes "BadKey"
wire_fault_name Group = codes "Group"

abbrev pub fields_fault_number : FieldsFault → ℕ
fields_fault_number (Wire fault) = wire_fault_number fault
fields_fault_number OutOfMemory = 33

abbrev pub fields_fault_name : FieldsFault → List ℕ
fields_fault_name (Wire fault) = wire_fault_name fault
fields_fault_name OutOfMemory = codes "OutOfMemory"
