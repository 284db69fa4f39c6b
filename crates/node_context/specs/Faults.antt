-- The numbers and names under which programs report why a node didn't run (own rule).
use Rattle.std.specs.Prelude.{ℕ, List, codes}
use Rattle.node_context.specs.declared.fault.NodeFault.{NodeFault}
use Rattle.node_context.specs.declared.fault.NodeFault.TheVariants.{BadAddress, NoFolder, OpenPulls, OutOfMemory, PassesFull}

abbrev pub node_fault_number : NodeFault → ℕ
node_fault_number OutOfMemory = 33
node_fault_number OpenPulls = 34
node_fault_number PassesFull = 35
node_fault_number NoFolder = 60
node_fault_number BadAddress = 62

abbrev pub node_fault_name : NodeFault → List ℕ
node_fault_name OutOfMemory = codes "OutOfMemory"
node_fault_name OpenPulls = codes "Stray"
node_fault_name PassesFull = codes "PassesFull"
node_fault_name NoFolder = codes "BadConfig"
node_fault_name BadAddress = codes "BadAddress"
