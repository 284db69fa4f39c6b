-- The numbers and names under which programs report why a text is no safe name (own rule).
use Rattle.std.specs.Prelude.{ℕ, List, codes}
use Rattle.sync_names.specs.declared.fault.NameFault.{NameFault}
use Rattle.sync_names.specs.declared.fault.NameFault.TheVariants.{Empty, Absolute, BadComponent, Nul, NotNfc, Internal, OutOfMemory}

abbrev pub number_of : NameFault → ℕ
number_of Empty = 20
number_of Absolute = 21
number_of BadComponent = 22
number_of Nul = 23
number_of NotNfc = 24
number_of Internal = 25
number_of OutOfMemory = 33

abbrev pub fault_name : NameFault → List ℕ
fault_name Empty = codes "Empty"
fault_name Absolute = codes "Absolute"
fault_name BadComponent = codes "BadComponent"
fault_name Nul = codes "Nul"
fault_name NotNfc = codes "NotNfc"
fault_name Internal = codes "Internal"
fault_name OutOfMemory = codes "OutOfMemory"
