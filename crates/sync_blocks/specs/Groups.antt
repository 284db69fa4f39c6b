-- The blocks of a part of a file, which is read by groups of whole blocks (own rule).
use Rattle.std.specs.Prelude.{ℕ, ◌+◌, ◌*◌, ◌/◌, max, List, map, length}
use Rattle.std.specs.Int.{div_ceil}
use Rattle.std.specs.List.{range_with_len}
use Rattle.sha2.specs.Sha256.{sha256}
use Rattle.sync_blocks.specs.declared.block.Block.{Block}
use Rattle.sync_blocks.specs.declared.reading.TheConstants.{MAX_GROUP_BYTES}
use Rattle.sync_blocks.specs.BlockList.{cut}

-- block i of bytes that begin at an offset in the file
abbrev pub placed_block : ℕ → List ℕ → ℕ → ℕ → Block
placed_block first bytes block_size i = record {
  offset = first + i * block_size;
  size = length (cut bytes block_size i);
  hash = sha256 (cut bytes block_size i);
}

-- the blocks of bytes that begin at an offset in the file: no block of no bytes
abbrev pub blocks_from : ℕ → List ℕ → ℕ → List Block
blocks_from first bytes block_size =
    map (λ i. placed_block first bytes block_size i) (range_with_len 0 (div_ceil (length bytes) block_size))

-- how many bytes are read at once: as many whole blocks as fit 64 MiB, at least one
abbrev pub group_bytes : ℕ → ℕ
group_bytes block_size = block_size * max 1 (MAX_GROUP_BYTES / block_size)
