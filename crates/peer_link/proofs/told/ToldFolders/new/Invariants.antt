use Rattle.std.proofs.Common.{◌≡◌, map, take}
use Rattle.peer_link.specs.Told.{untold}
use Rattle.peer_link.proofs.told.ToldFolders.new.Given as goal

abbrev pub invariant-loop-folder : goal.invariant-loop-folder
invariant-loop-folder g l = l.untold.items ≡ map untold (take l.folder-index l.folders)
