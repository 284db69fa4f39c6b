-- What was read so far is what the file has there; nothing changed, and no fault was counted.
use Rattle.std.proofs.Common.{◌≡◌, ◌-◌, ◌≤◌, true, length, take, drop}
use Rattle.file_store.specs.FullReads.{Fills}
use Rattle.file_store.specs.Trees.{bytes_of}
use Rattle.file_store.proofs.reading.read_full.Given as goal

abbrev pub invariant-loop-filled : goal.invariant-loop-filled
invariant-loop-filled g l = record {
  within : l.filled ≤ length l.buffer;
  bytes : g.S.FileStore.keeps ≡ true → take l.filled l.buffer
      ≡ take l.filled (drop l.offset (bytes_of ((g.S.FileStore.tree l.initial.store).names l.name)));
  kept : g.S.FileStore.keeps ≡ true → g.S.FileStore.tree l.store ≡ g.S.FileStore.tree l.initial.store;
  given : Fills g.S.FileStore.gives l.name l.offset l.initial.store l.initial.buffer l.filled l.store l.buffer;
  counted : g.S.FileStore.fault_count l.store ≡ g.S.FileStore.fault_count l.initial.store;
}

abbrev pub decreases-loop-filled : goal.decreases-loop-filled
decreases-loop-filled g l = length l.initial.buffer - l.filled
