use Rattle.std.proofs.Common.{◌≡◌, drop}
use Rattle.folder_index.specs.Devices.{without_names}
use Rattle.folder_db.proofs.message.clear_all.Given as goal

abbrev pub invariant-loop-name : goal.invariant-loop-name
invariant-loop-name l = without_names l.device (drop l.name-index l.names) l.index ≡ without_names l.device l.names l.fn.index
