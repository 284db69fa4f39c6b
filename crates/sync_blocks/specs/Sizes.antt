-- The block sizes of files (Block Exchange Protocol v1, "Fields of the FileInfo message", block_size).
use Rattle.std.specs.Prelude.{ℕ, ◌*◌, ◌^◌, List, map, find, nat_lt, unwrap_or, Bool, ◌==◌}
use Rattle.std.specs.List.{list_any, range_with_len}

-- the powers of two from 128 KiB to 16 MiB, rising
abbrev pub block_sizes : List ℕ
block_sizes = map (λ k. 2 ^ k) (range_with_len 17 8)

-- whether a number is one of them
abbrev pub is_block_size : ℕ → Bool
is_block_size n = list_any (λ size. n == size) block_sizes

-- the least block size of which a file of this many bytes has less than 2000, and else the greatest
abbrev pub block_size_for : ℕ → ℕ
block_size_for bytes = unwrap_or (find (λ size. nat_lt bytes (2000 * size)) block_sizes) (2 ^ 24)
