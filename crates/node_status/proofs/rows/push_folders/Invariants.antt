use Rattle.std.proofs.Common.{◌≡◌, ◌++◌, take}
use Rattle.std.specs.List.{flat_map}
use Rattle.node_status.specs.Rows.{folder_rows}
use Rattle.node_status.proofs.rows.push_folders.Given as goal

abbrev pub invariant-loop-folder : goal.invariant-loop-folder
invariant-loop-folder l = l.rows.items ≡ l.initial.rows.items ++ flat_map (folder_rows l.made) (take l.folder-index l.folders)
