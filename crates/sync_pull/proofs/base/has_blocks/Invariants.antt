-- Nothing changed, no fault was counted, and the file has all blocks exactly if it has the rest of them where it was read up to.
use Rattle.std.proofs.Common.{◌≡◌, ◌≤◌, true, drop, take}
use Rattle.std.specs.Prelude.{◌↔◌}
use Rattle.file_store.specs.Trees.{bytes_of}
use Rattle.file_store.specs.Sequences.{LooksOnly}
use Rattle.sync_pull.specs.Bytes.{AreOf}
use Rattle.sync_pull.specs.Moments.{GivesBlocks}
use Rattle.sync_pull.proofs.base.has_blocks.Given as goal

abbrev pub invariant-loop-block : goal.invariant-loop-block
invariant-loop-block g l = record {
  within : l.at ≤ l.size;
  rest : g.S.FileStore.keeps ≡ true → AreOf l.blocks (bytes_of ((g.S.FileStore.tree l.initial.store).names l.name))
      ↔ AreOf (drop l.block-index l.blocks) (drop l.at (bytes_of ((g.S.FileStore.tree l.initial.store).names l.name)));
  counted : g.S.FileStore.fault_count l.store ≡ g.S.FileStore.fault_count l.initial.store;
  kept : g.S.FileStore.keeps ≡ true → g.S.FileStore.tree l.store ≡ g.S.FileStore.tree l.initial.store;
  told : GivesBlocks g.S.FileStore.gives l.name l.initial.store (take l.block-index l.blocks) l.at l.store;
  looks : LooksOnly g.S.FileStore.gives l.initial.store l.store;
}
