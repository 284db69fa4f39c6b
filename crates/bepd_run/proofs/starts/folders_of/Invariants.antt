use Rattle.std.proofs.Common.{◌≡◌, ◌++◌, length}
use Rattle.std.specs.Prelude.{map}
use Rattle.node_resume.specs.Resumed.{taken}
use Rattle.bepd_run.specs.Starts.{AreFolders}
use Rattle.bepd_run.proofs.starts.folders_of.Given as goal

-- those that came are the first ones of the configuration, and the others are still to come
abbrev pub invariant-loop-folder : goal.invariant-loop-folder
invariant-loop-folder l = record {
  count : length l.folders.items ≡ length l.yielded;
  each : AreFolders (map taken l.yielded) l.folders.items l.config.folders;
  divided : l.fn.resumed.items ≡ l.yielded ++ l.folder-iterator.rest.items;
}
