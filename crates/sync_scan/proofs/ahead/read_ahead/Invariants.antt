-- What was read of the names so far, in their order.
use Rattle.std.proofs.Common.{◌≡◌, ◌≤◌, length, map, take, true}
use Rattle.std.specs.Prelude.{IsTrue}
use Rattle.std.specs.List.{AllZip}
use Rattle.folder_calls.specs.Shared.{Sees}
use Rattle.file_store.specs.Sequences.{LooksOnly}
use Rattle.sync_scan.specs.Ahead.{HasBytes, IsSeen}
use Rattle.sync_scan.specs.Looks.{MayFindAt, ShownSince}
use Rattle.sync_scan.specs.Told.{Fails}
use Rattle.sync_scan.proofs.ahead.read_ahead.Given as goal

abbrev pub invariant-loop-entry : goal.invariant-loop-entry
invariant-loop-entry g l = record {
  folder : g.W.FolderCalls.folder l.calls ≡ g.W.FolderCalls.folder l.initial.calls;
  sees : Sees (g.W.FolderCalls.view l.initial.calls) (g.W.FolderCalls.view l.calls);
  within : l.batch.filled ≤ length l.buffer.items;
  seen : AllZip (IsSeen (HasBytes (take l.batch.filled l.buffer.items) l.batch.cuts.items) (g.W.FolderCalls.view l.initial.calls) (g.W.FolderCalls.view l.calls)
      (MayFindAt g.S.FileStore.gives (ShownSince g.S.FileStore.gives (g.G.Gate.shown l.scanning.gate.now g.row.S.Denot g.row.W.Denot) g.W.FolderCalls.view l.initial.store) (IsTrue g.S.FileStore.keeps) (g.S.FileStore.tree l.initial.store)) (Fails g.S.FileStore.gives))
      (take l.entry-index (map (λ e. e.name) l.entries)) l.seen.items;
  looks : LooksOnly g.S.FileStore.gives l.initial.store l.store;
  kept : g.S.FileStore.keeps ≡ true → g.S.FileStore.tree l.store ≡ g.S.FileStore.tree l.initial.store;
}
