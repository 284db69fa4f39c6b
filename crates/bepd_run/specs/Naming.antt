-- Which failures name what they are about (own rule). Where memory runs out for the name, that is told.
use Rattle.std.specs.Prelude.{◌≡◌, ⊤}
use Rattle.node_config.specs.declared.fault.ConfigFault.{ConfigFault}
use Rattle.node_state.specs.declared.fault.StateFault.TheVariants.{BadState}
use Rattle.bepd_run.specs.declared.failure.RunFailure.{RunFailure}
use Rattle.bepd_run.specs.declared.failure.RunFailure.TheVariants.{Address, Config, ConfigWith, File, OutOfMemory, State, StateAt}

abbrev pub IsOfFile : RunFailure → Type 0
IsOfFile (File about) = ⊤
IsOfFile OutOfMemory = ⊤
IsOfFile _ = ⊥

abbrev pub IsOfAddress : RunFailure → Type 0
IsOfAddress (Address about) = ⊤
IsOfAddress OutOfMemory = ⊤
IsOfAddress _ = ⊥

-- a configuration that is refused for this fault
abbrev pub IsOfConfig : ConfigFault → RunFailure → Type 0
IsOfConfig fault (Config told) = told ≡ fault
IsOfConfig fault (ConfigWith told about) = told ≡ fault
IsOfConfig fault _ = ⊥

-- a state that is refused, named, for the same reason
abbrev pub IsNamed : RunFailure → RunFailure → Type 0
IsNamed (State (BadState problem)) (StateAt (BadState told) about) = told ≡ problem
IsNamed (State (BadState problem)) OutOfMemory = ⊤
IsNamed _ _ = ⊥

-- a failure once the state is known that it is of: a state that is refused is named, and any other failure stays as it is
abbrev pub IsAt : RunFailure → RunFailure → Type 0
IsAt (State (BadState problem)) told = IsNamed (State (BadState problem)) told
IsAt failure told = told ≡ failure
