-- The number and the name of a fault.
use Rattle.std.specs.Prelude.{ℕ, List, codes}
use Rattle.node_config.specs.declared.fault.ConfigFault.{ConfigFault}
use Rattle.node_config.specs.declared.fault.ConfigFault.TheVariants.{NotToml, BadKey, OutOfMemory}

abbrev pub number_of : ConfigFault → ℕ
number_of (NotToml line) = 60
number_of (BadKey place key problem) = 60
number_of OutOfMemory = 33

abbrev pub fault_name : ConfigFault → List ℕ
fault_name (NotToml line) = codes "BadConfig"
fault_name (BadKey place key problem) = codes "BadConfig"
fault_name OutOfMemory = codes "OutOfMemory"
