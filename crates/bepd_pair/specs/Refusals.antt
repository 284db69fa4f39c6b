-- Why a command is not done (own rule).
use Rattle.file_store.specs.declared.refusal.StoreRefusal.{StoreRefusal}
use Rattle.file_store.specs.declared.refusal.StoreRefusal.TheVariants as store
use Rattle.sync_names.specs.declared.fault.NameFault.{NameFault}
use Rattle.sync_names.specs.declared.fault.NameFault.TheVariants as name
use Rattle.bepd_pair.specs.declared.refused.Refused.{Refused}
use Rattle.bepd_pair.specs.declared.refused.Refused.TheVariants.{UnknownCommand, Name, OutOfMemory}

abbrev pub refused_by_memory : Refused
refused_by_memory = OutOfMemory

abbrev pub refused_name : NameFault → Refused
refused_name name.OutOfMemory = OutOfMemory
refused_name fault = Name fault

-- a call of a store that does not fit what is there is no command
abbrev pub refused_store : StoreRefusal → Refused
refused_store store.OutOfMemory = OutOfMemory
refused_store _ = UnknownCommand
