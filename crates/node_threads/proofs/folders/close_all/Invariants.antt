use Rattle.std.proofs.Common.{◌≡◌, ◌++◌}
use Rattle.node_threads.specs.Left.{AreClosed}
use Rattle.node_threads.proofs.folders.close_all.Given as goal

-- those that came are closed, and the others are still to come
abbrev pub invariant-loop-folder : goal.invariant-loop-folder
invariant-loop-folder g l = record {
  closed : AreClosed g.C.FolderCore.state l.yielded l.cores.items;
  divided : l.fn.shared.items ≡ l.yielded ++ l.folder-iterator.rest.items;
}
