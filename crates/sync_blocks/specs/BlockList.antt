-- The block list of a file's bytes (Block Exchange Protocol v1, "Fields of the BlockInfo message"; FIPS 180-4, SHA-256).
use Rattle.std.specs.Prelude.{ℕ, ◌*◌, max, List, map, length, take, drop}
use Rattle.std.specs.Int.{div_ceil}
use Rattle.std.specs.List.{range_with_len}
use Rattle.sha2.specs.Sha256.{sha256}
use Rattle.sync_blocks.specs.declared.block.Block.{Block}

-- the bytes of block i: from i times the block size on, as many as the block size or as there are
abbrev pub cut : List ℕ → ℕ → ℕ → List ℕ
cut bytes block_size i = take block_size (drop (i * block_size) bytes)

-- block i: where it begins, how many bytes it has, and their SHA-256 digest
abbrev pub block_at : List ℕ → ℕ → ℕ → Block
block_at bytes block_size i = record {
  offset = i * block_size;
  size = length (cut bytes block_size i);
  hash = sha256 (cut bytes block_size i);
}

-- as many blocks as it takes, and one for an empty file
abbrev pub block_count : ℕ → ℕ → ℕ
block_count size block_size = max 1 (div_ceil size block_size)

-- those blocks of the bytes, in order
abbrev pub block_list : List ℕ → ℕ → List Block
block_list bytes block_size =
    map (λ i. block_at bytes block_size i) (range_with_len 0 (block_count (length bytes) block_size))
