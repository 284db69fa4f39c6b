-- The blocks are those of the bytes that were read, which are whole blocks unless they are all.
use Rattle.std.proofs.Common.{◌≡◌, ◌≤◌, ◌-◌, ◌*◌, ◌⊎◌, ℕ, List, min, length}
use Rattle.std.specs.Io.KnownBytes.{Consumes}
use Rattle.sync_blocks.specs.Groups.{blocks_from, group_bytes}
use Rattle.sync_blocks.proofs.reading.read_groups.Given as goal

abbrev pub invariant-loop-done : goal.invariant-loop-done
invariant-loop-done g l = record {
  read : (bytes : List ℕ) × Consumes (g.R.Read.remaining l.initial.reader) (g.R.Read.remaining l.reader) bytes
      × (length bytes ≡ l.done) × (l.blocks.items ≡ blocks_from 0 bytes l.block_size);
  within : l.done ≤ l.size;
  whole : (l.done ≡ l.size) ⊎ ((n : ℕ) × (l.done ≡ n * l.block_size));
  buffer : length l.buffer ≡ min l.size (group_bytes l.block_size);
}

abbrev pub decreases-loop-done : goal.decreases-loop-done
decreases-loop-done g l = l.size - l.done
