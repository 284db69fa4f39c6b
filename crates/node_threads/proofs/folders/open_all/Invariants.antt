use Rattle.std.proofs.Common.{◌≡◌, ◌++◌}
use Rattle.node_threads.specs.Left.{AreOpened}
use Rattle.node_threads.proofs.folders.open_all.Given as goal

-- those that came are open, and the others are still to come
abbrev pub invariant-loop-folder : goal.invariant-loop-folder
invariant-loop-folder g l = record {
  opened : AreOpened g.C.FolderCore.state l.yielded l.shared.items;
  divided : l.fn.folders.items ≡ l.yielded ++ l.folder-iterator.rest.items;
}
