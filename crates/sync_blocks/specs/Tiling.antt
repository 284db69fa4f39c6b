-- Blocks that make up a file (Block Exchange Protocol v1, "Fields of the BlockInfo message").
use Rattle.std.specs.Prelude.{◌≡◌, ◌⊎◌, ℕ, ◌+◌, ◌≤◌, Bool, ◌&&◌, ◌==◌, nat_le, nat_eq, List, [], ◌∷◌, ◌++◌, sum_by}
use Rattle.std.specs.Cmp.Lexicographic.{pointwise}
use Rattle.sync_blocks.specs.declared.block.Block.{Block}

-- each block begins at the sum of the sizes before it, and the sum of all is the size; all except the last have
-- the block size, and the last has 1 byte to the block size
pub record IsTiling (blocks : List Block) (size block_size : ℕ) : Type 0 where
  pub begin : (front back : List Block) (b : Block) → blocks ≡ front ++ b ∷ back → b.offset ≡ sum_by (λ c. c.size) front
  pub all : sum_by (λ c. c.size) blocks ≡ size
  pub full : (front back : List Block) (b c : Block) → blocks ≡ front ++ b ∷ c ∷ back → b.size ≡ block_size
  pub last : (front : List Block) (b : Block) → blocks ≡ front ++ b ∷ [] → (1 ≤ b.size) × (b.size ≤ block_size)

-- an empty file may have one block too, of size 0
pub record IsEmptyBlock (blocks : List Block) (size : ℕ) : Type 0 where
  pub empty : size ≡ 0
  pub one : (b : Block) × (blocks ≡ b ∷ []) × (b.offset ≡ 0) × (b.size ≡ 0)

-- blocks that make up a file of this size
abbrev pub Tiles : List Block → ℕ → ℕ → Type 0
Tiles blocks size block_size = IsTiling blocks size block_size ⊎ IsEmptyBlock blocks size

-- as a test: from an offset on the blocks cover all up to the size, without gap or overlap
abbrev pub tiles_from : ℕ → List Block → ℕ → ℕ → Bool
tiles_from at [] size block_size = at == size
tiles_from at (b ∷ []) size block_size =
    (b.offset == at) && (at + b.size == size) && nat_le 1 b.size && nat_le b.size block_size
tiles_from at (b ∷ c ∷ bs) size block_size =
    (b.offset == at) && (b.size == block_size) && tiles_from (at + block_size) (c ∷ bs) size block_size

-- `Tiles` as a test
abbrev pub tiles : List Block → ℕ → ℕ → Bool
tiles (b ∷ []) ℕ.zero block_size = (b.offset == 0) && (b.size == 0)
tiles blocks size block_size = tiles_from 0 blocks size block_size

-- whether offset, size and digest are the same
abbrev pub same_block : Block → Block → Bool
same_block a b = (a.offset == b.offset) && (a.size == b.size) && pointwise nat_eq a.hash b.hash
