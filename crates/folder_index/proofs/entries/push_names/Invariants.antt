use Rattle.std.proofs.Common.{◌≡◌, ◌++◌, take}
use Rattle.folder_index.specs.Devices.{names_from}
use Rattle.folder_index.proofs.entries.push_names.Given as goal

abbrev pub invariant-loop-entry : goal.invariant-loop-entry
invariant-loop-entry l = l.names.items ≡ l.fn.names.items ++ names_from l.device (take l.entry-index l.entries)
