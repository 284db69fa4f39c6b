-- The folders before are told.
use Rattle.std.proofs.Common.{◌≡◌}
use Rattle.std.specs.Prelude.{map, take}
use Rattle.peer_conn.specs.Configs.{folder_told}
use Rattle.peer_conn.proofs.config.cluster_config.Given as goal

abbrev pub invariant-loop-folder : goal.invariant-loop-folder
invariant-loop-folder l = l.told.items ≡ map (folder_told l.me l.name l.peer) (take l.folder-index l.folders)
