use Rattle.std.proofs.Common.{◌≡◌, List, None, take, true}
use Rattle.std.specs.Prelude.{IsTrue}
use Rattle.file_store.specs.Sequences.{LooksOnly}
use Rattle.sync_scan.specs.AllNames.{GoesOver, ScansEach, Tried, UnlessBelow, sum_after}
use Rattle.sync_scan.specs.Told.{Fails}
use Rattle.sync_scan.specs.Looks.{MayFindAt, ShownSince}
use Rattle.sync_scan.proofs.all.scan_missing.Given as goal

abbrev pub invariant-loop-name : goal.invariant-loop-name
invariant-loop-name g l = record {
  folder : g.W.FolderCalls.folder l.calls ≡ g.W.FolderCalls.folder l.initial.calls;
  scans : (tried : List Tried)
      × ScansEach (g.W.FolderCalls.view l.initial.calls) (g.W.FolderCalls.view l.initial.calls) l.scanning.moment (UnlessBelow l.missing.unread.now (MayFindAt g.S.FileStore.gives (ShownSince g.S.FileStore.gives (g.G.Gate.shown l.scanning.gate.now g.row.S.Denot g.row.W.Denot) g.W.FolderCalls.view l.initial.store) (IsTrue g.S.FileStore.keeps) (g.S.FileStore.tree l.initial.store))) (Fails g.S.FileStore.gives) tried (g.W.FolderCalls.view l.calls)
      × GoesOver (take l.name-index l.missing.names.now) tried None × (l.sum ≡ sum_after l.initial.sum tried);
  stopped : l.sum.stopped ≡ None;
  looks : LooksOnly g.S.FileStore.gives l.initial.store l.store;
  kept : g.S.FileStore.keeps ≡ true → g.S.FileStore.tree l.store ≡ g.S.FileStore.tree l.initial.store;
}
