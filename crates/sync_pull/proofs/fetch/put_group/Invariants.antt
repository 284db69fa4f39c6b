-- The blocks of the group so far are in the temporary file after those before, nothing else changed, and no fault was counted; the bytes of
-- the others follow.
use Rattle.std.proofs.Common.{◌≡◌, ◌+◌, ◌≤◌, true, take, drop, length}
use Rattle.file_store.specs.Calls.{ChangesTemp}
use Rattle.file_store.specs.Sequences.{CallsOnly, IsOfTemp}
use Rattle.sync_pull.specs.Fetching.{AreFound, ArePut, HoldsBlocks, IsFound}
use Rattle.sync_pull.proofs.fetch.put_group.Given as goal

abbrev pub invariant-loop-i : goal.invariant-loop-i
invariant-loop-i g l = record {
  target : l.assembly.target ≡ l.initial.assembly.target;
  within : l.i ≤ length l.hashed.group.now.asked.items;
  bytes : l.offset ≤ length l.hashed.group.now.bytes.items;
  found : AreFound (IsFound g.B.BlockSource.gives l.fetch.me l.fetch.name.now l.fetch.devices.now l.source) (drop (l.start + l.i) l.initial.assembly.target.blocks)
      (drop l.offset l.hashed.group.now.bytes.items) (drop l.i l.hashed.group.now.asked.items);
  put : ArePut (l.start + l.i) l.assembly;
  held : g.S.FileStore.keeps ≡ true → HoldsBlocks (take l.start l.initial.assembly.target.blocks) l.fetch.name.now (g.S.FileStore.tree l.initial.store)
      → HoldsBlocks (take (l.start + l.i) l.initial.assembly.target.blocks) l.fetch.name.now (g.S.FileStore.tree l.store);
  counted : g.S.FileStore.fault_count l.store ≡ g.S.FileStore.fault_count l.initial.store;
  temp : g.S.FileStore.keeps ≡ true → ChangesTemp (g.S.FileStore.tree l.initial.store) l.fetch.name.now (g.S.FileStore.tree l.store);
  calls : CallsOnly g.S.FileStore.gives (IsOfTemp l.fetch.name.now) l.initial.store l.store;
}
