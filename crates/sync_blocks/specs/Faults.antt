-- The names under which programs report why a file's blocks were not read (own rule).
use Rattle.std.specs.Prelude.{ℕ, List, codes}
use Rattle.sync_blocks.specs.declared.fault.ReadFault.{ReadFault}
use Rattle.sync_blocks.specs.declared.fault.ReadFault.TheVariants.{Short, Long, Read, OutOfMemory}

abbrev pub fault_name : ReadFault → List ℕ
fault_name Short = codes "Short"
fault_name Long = codes "Long"
fault_name Read = codes "Read"
fault_name OutOfMemory = codes "OutOfMemory"
