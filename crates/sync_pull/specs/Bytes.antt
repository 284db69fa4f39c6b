-- The bytes that blocks describe (Block Exchange Protocol v1, "Fields of the BlockInfo message").
use Rattle.std.specs.Prelude.{◌≡◌, ℕ, List, [], ◌∷◌, length, take, drop}
use Rattle.sha2.specs.Sha256.{sha256}
use Rattle.sync_blocks.specs.declared.block.Block.{Block}

-- the bytes begin with those of the block: so many, with this digest
pub record HasBlock (b : Block) (bytes : List ℕ) : Type 0 where
  pub size : length (take b.size bytes) ≡ b.size
  pub digest : sha256 (take b.size bytes) ≡ b.hash

-- the bytes are those of the blocks, one after the other, and no others
abbrev pub AreOf : List Block → List ℕ → Type 0
AreOf [] bytes = bytes ≡ []
AreOf (b ∷ bs) bytes = HasBlock b bytes × AreOf bs (drop b.size bytes)
