-- What it means that two stores hold the same under a name (own rule; the digests by FIPS 180-4).
use Rattle.std.specs.Prelude.{◌≡◌, ⊤, ℕ, List, [], ◌∷◌, length, take, drop, Option, Some, None}
use Rattle.sha2.specs.Sha256.{sha256}
use Rattle.file_store.specs.declared.node.Node.{Node}
use Rattle.file_store.specs.declared.node.Node.TheVariants.{Directory, File}
use Rattle.sync_blocks.specs.declared.block.Block.{Block}
use Rattle.sync_pull.specs.Bytes.{AreOf}

-- Two files have as many bytes, and are cut into the same blocks: each block has on both sides the same SHA-256 digest.
pub record AreCutAlike (one other : List ℕ) : Type 0 where
  pub size : length one ≡ length other
  pub blocks : List Block
  pub of_one : AreOf blocks one
  pub of_other : AreOf blocks other

-- both are directories, nothing is at either, or both are files that are cut alike
abbrev pub AreAlike : Option Node → Option Node → Type 0
AreAlike None other = other ≡ None
AreAlike (Some Directory) other = other ≡ Some Directory
AreAlike (Some (File bytes modified)) other =
    (others : List ℕ) × (later : ℕ) × (other ≡ Some (File others later)) × AreCutAlike bytes others

-- where a block of the one file has the digest of that of the other, it has the same bytes
abbrev pub HasNoCollision : List Block → List ℕ → List ℕ → Type 0
HasNoCollision [] one other = ⊤
HasNoCollision (b ∷ bs) one other =
    (sha256 (take b.size one) ≡ sha256 (take b.size other) → take b.size one ≡ take b.size other)
    × HasNoCollision bs (drop b.size one) (drop b.size other)
