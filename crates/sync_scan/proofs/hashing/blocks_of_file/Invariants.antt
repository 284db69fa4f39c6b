-- The blocks are those of the bytes that were read, which are whole blocks unless they are all.
use Rattle.std.proofs.Common.{◌≡◌, ◌≤◌, ◌-◌, ◌*◌, ◌⊎◌, ℕ, List, length, take, true}
use Rattle.file_store.specs.Sequences.{LooksOnly, Since}
use Rattle.file_store.specs.Trees.{bytes_of}
use Rattle.sync_blocks.specs.Groups.{blocks_from}
use Rattle.sync_scan.specs.Told.{ReadsParts}
use Rattle.sync_scan.proofs.hashing.blocks_of_file.Given as goal

abbrev pub invariant-loop-done : goal.invariant-loop-done
invariant-loop-done g l = record {
  within : l.done ≤ l.size;
  whole : (l.done ≡ l.size) ⊎ ((n : ℕ) × (l.done ≡ n * l.block_size));
  read : (bytes : List ℕ) × (length bytes ≡ l.done) × (l.blocks.items ≡ blocks_from 0 bytes l.block_size)
      × (g.S.FileStore.keeps ≡ true → bytes ≡ take l.done (bytes_of ((g.S.FileStore.tree l.initial.store).names l.name)))
      × ((first : g.row.S.Denot) → LooksOnly g.S.FileStore.gives first l.initial.store → ReadsParts (Since g.S.FileStore.gives first) l.name bytes);
  looks : LooksOnly g.S.FileStore.gives l.initial.store l.store;
  kept : g.S.FileStore.keeps ≡ true → g.S.FileStore.tree l.store ≡ g.S.FileStore.tree l.initial.store;
  counted : g.S.FileStore.fault_count l.store ≡ g.S.FileStore.fault_count l.initial.store;
  room : l.group ≤ length l.bytes;
}

abbrev pub decreases-loop-done : goal.decreases-loop-done
decreases-loop-done g l = l.size - l.done
