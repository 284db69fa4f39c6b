-- How a node that runs by a configuration ends badly (own rule).
use Rattle.std.specs.Prelude.{ℕ, List, ◌++◌, codes, decimal}
use Rattle.std.specs.declared.io.ErrorKind.{ErrorKind}
use Rattle.std.specs.declared.io.ErrorKind.TheVariants as io
use Rattle.folder_core.specs.declared.restore_fault.RestoreFault.{RestoreFault}
use Rattle.folder_core.specs.declared.restore_fault.RestoreFault.TheVariants as restore
use Rattle.node_config.specs.declared.fault.ConfigFault.{ConfigFault}
use Rattle.node_config.specs.declared.fault.ConfigFault.TheVariants as config
use Rattle.node_config.specs.Faults.{fault_name, number_of}
use Rattle.node_config.specs.Lines.{fault_text}
use Rattle.node_state.specs.declared.fault.StateFault.{StateFault}
use Rattle.node_state.specs.declared.fault.StateFault.TheVariants as state
use Rattle.node_state.specs.declared.fault.Problem.TheVariants.{Records}
use Rattle.node_state.specs.FaultNames.{state_fault_name, state_fault_number}
use Rattle.node_context.specs.declared.fault.NodeFault.{NodeFault}
use Rattle.node_context.specs.declared.fault.NodeFault.TheVariants as node
use Rattle.node_context.specs.Faults.{node_fault_name, node_fault_number}
use Rattle.bepd_run.specs.declared.failure.RunFailure.{RunFailure}
use Rattle.bepd_run.specs.declared.failure.RunFailure.TheVariants.{Address, Config, ConfigWith, Exists, File, FolderInUse, Node, NoAnswer, NoFolder, NotDone, NotDoneWith, OutOfMemory, ReadOrWrite, Refused, State, StateAt, StateInUse}

abbrev pub config_status : ConfigFault → ℕ
config_status (config.NotToml line) = 1
config_status (config.BadKey place key problem) = 1
config_status config.OutOfMemory = 4

abbrev pub state_status : StateFault → ℕ
state_status (state.BadState problem) = 6
state_status state.OutOfMemory = 4

abbrev pub node_status : NodeFault → ℕ
node_status node.OutOfMemory = 4
node_status node.OpenPulls = 5
node_status node.PassesFull = 4
node_status node.NoFolder = 1
node_status node.BadAddress = 7

-- the exit status
abbrev pub run_failure_status : RunFailure → ℕ
run_failure_status (Config fault) = config_status fault
run_failure_status (ConfigWith fault about) = config_status fault
run_failure_status (State fault) = state_status fault
run_failure_status (Node fault) = node_status fault
run_failure_status (StateAt fault about) = state_status fault
run_failure_status (StateInUse path) = 6
run_failure_status (FolderInUse path) = 6
run_failure_status OutOfMemory = 4
run_failure_status (Refused about) = 1
run_failure_status (Exists name) = 5
run_failure_status (NoFolder about) = 5
run_failure_status (Address about) = 7
run_failure_status (File about) = 5
run_failure_status (NoAnswer about) = 8
run_failure_status NotDone = 9
run_failure_status (NotDoneWith about) = 9
run_failure_status ReadOrWrite = 5

-- an error of a file, of the commands or of the answers
abbrev pub io_failure : ErrorKind → RunFailure
io_failure io.OutOfMemory = OutOfMemory
io_failure _ = ReadOrWrite

-- records that no folder has, or no memory for them
abbrev pub restore_failure : RestoreFault → RunFailure
restore_failure restore.BadRecords = State (state.BadState Records)
restore_failure restore.OutOfMemory = OutOfMemory

-- `fault NUMBER NAME`
abbrev pub numbered : ℕ → List ℕ → List ℕ
numbered number name = codes "fault " ++ decimal number ++ codes " " ++ name

-- what is told on standard error, without its last line feed
abbrev pub run_failure_text : RunFailure → List ℕ
run_failure_text (Config fault) = numbered (number_of fault) (fault_name fault) ++ codes "\n" ++ fault_text fault
run_failure_text (ConfigWith fault about) = numbered (number_of fault) (fault_name fault) ++ codes "\n" ++ fault_text fault ++ codes "\n" ++ about
run_failure_text (State fault) = numbered (state_fault_number fault) (state_fault_name fault)
run_failure_text (Node fault) = numbered (node_fault_number fault) (node_fault_name fault)
run_failure_text (StateAt fault about) = numbered (state_fault_number fault) (state_fault_name fault) ++ codes "\n" ++ about
run_failure_text (StateInUse path) = codes "fault 63 StateInUse\n" ++ (path ++ codes ": another run has it; end that one, or have it do what is wanted by bepd ask")
run_failure_text (FolderInUse path) = codes "fault 64 FolderInUse\n" ++ (path ++ codes ": another run has it; end that one, or give the folder another path")
run_failure_text OutOfMemory = codes "fault 33 OutOfMemory"
run_failure_text (Refused about) = codes "fault " ++ about
run_failure_text (Exists name) = codes "fault " ++ (name ++ codes " is there already")
run_failure_text (NoFolder about) = codes "fault 40 StoreFault\n" ++ about
run_failure_text (Address about) = codes "fault 62 BadAddress\n" ++ about
run_failure_text (File about) = codes "fault read or write\n" ++ about
run_failure_text (NoAnswer about) = codes "fault no answer\n" ++ about
run_failure_text NotDone = codes "fault not done: the answer says why"
run_failure_text (NotDoneWith about) = codes "fault not done: the answer says why\n" ++ about
run_failure_text ReadOrWrite = codes "fault read or write"
