use Rattle.std.proofs.Common.{◌≡◌, take}
use Rattle.folder_index.specs.Devices.{without_names}
use Rattle.folder_index.proofs.by_name.ByName.forget.Given as goal

abbrev pub invariant-loop-name : goal.invariant-loop-name
invariant-loop-name l = l.self ≡ without_names l.device (take l.name-index l.name-items) l.fn.self
