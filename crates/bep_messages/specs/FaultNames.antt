-- The numbers and names under which programs report faults (own rule).
use Rattle.std.specs.Prelude.{ℕ, List, codes}
use Rattle.bep_wire.specs.FaultNames.{wire_fault_number, wire_fault_name}
use Rattle.bep_messages.specs.declared.fault.MessageFault.{MessageFault}
use Rattle.bep_messages.specs.declared.fault.MessageFault.TheVariants.{Wire, NotUtf8, OutOfMemory}

abbrev pub message_fault_number : MessageFault → ℕ
message_fault_number (Wire fault) = wire_fault_number fault
message_fault_number NotUtf8 = 5
message_fault_number OutOfMemory = 33

abbrev pub message_fault_name : MessageFault → List ℕ
message_fault_name (Wire fault) = wire_fault_name fault
message_fault_name NotUtf8 = codes "NotUtf8"
message_fault_name OutOfMemory = codes "OutOfMemory"
