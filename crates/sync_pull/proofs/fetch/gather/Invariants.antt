-- So many blocks were found; nothing changed, and no fault was counted; the caller only saw the history go on.
use Rattle.file_store.specs.Sequences.{LooksOnly}
use Rattle.std.proofs.Common.{◌≡◌, ◌≤◌, true, length, take}
use Rattle.folder_calls.specs.Shared.{Sees}
use Rattle.sync_pull.specs.Fetching.{AreFound, IsFound}
use Rattle.sync_pull.proofs.fetch.gather.Given as goal

abbrev pub invariant-loop-i : goal.invariant-loop-i
invariant-loop-i g l = record {
  each : length l.group.asked.items ≡ l.i;
  within : l.i ≤ length l.blocks;
  found : AreFound (IsFound g.B.BlockSource.gives l.fetch.me l.fetch.name.now l.fetch.devices.now l.source) (take l.i l.blocks) l.group.bytes.items l.group.asked.items;
  folder : g.W.FolderCalls.folder l.calls ≡ g.W.FolderCalls.folder l.initial.calls;
  sees : Sees (g.W.FolderCalls.view l.initial.calls) (g.W.FolderCalls.view l.calls);
  counted : g.S.FileStore.fault_count l.store ≡ g.S.FileStore.fault_count l.initial.store;
  kept : g.S.FileStore.keeps ≡ true → g.S.FileStore.tree l.store ≡ g.S.FileStore.tree l.initial.store;
  looks : LooksOnly g.S.FileStore.gives l.initial.store l.store;
}
