-- Blocks that are fetched and put into the temporary file (own rule).
use Rattle.std.specs.Prelude.{◌≡◌, ◌≢◌, ℕ, ◌<◌, true, false, List, [], ◌∷◌, length, take, drop, get_or, IfSome, MatchOption, Option, Some, slice_get}
use Rattle.file_store.specs.Calls.{temp_written}
use Rattle.file_store.specs.Names.{Name}
use Rattle.file_store.specs.Trees.{Tree}
use Rattle.sync_blocks.specs.declared.block.Block.{Block}
use Rattle.sync_record.specs.Assemblies.{Assembling, put_answer, with_put}
use Rattle.sync_record.specs.declared.put.Put.TheVariants.{Ok}
use Rattle.sync_record.specs.Devices.{Identity}
use Rattle.sync_pull.specs.Bytes.{AreOf}
use Rattle.sync_pull.specs.Sources.{AskedInVain, Gives, HasNoBytes}

-- the bytes were put as this block of the target, whose they are
pub record IsPut (i : ℕ) (bytes : List ℕ) (old new : Assembling) : Type 0 where
  pub placed : new ≡ with_put Ok i old
  pub own : IfSome (slice_get old.target.blocks i) (λ b. put_answer b bytes ≡ Ok)

-- the bytes are not those of this block of the target, and nothing was put
pub record IsNotPut (i : ℕ) (bytes : List ℕ) (old new : Assembling) : Type 0 where
  pub same : new ≡ old
  pub other : IfSome (slice_get old.target.blocks i) (λ b. put_answer b bytes ≢ Ok)

-- the blocks before this one were put
pub record ArePut (count : ℕ) (a : Assembling) : Type 0 where
  pub marks : length a.placed ≡ length a.target.blocks
  pub each : (i : ℕ) → i < count → get_or a.placed i false ≡ true

-- some bytes were put as this block
abbrev pub IsPutOf : ℕ → Assembling → Assembling → Type 0
IsPutOf i old new = (bytes : List ℕ) × IsPut i bytes old new

-- bytes that were put as this block were written to the temporary file at the block's offset
pub record IsWritten (i : ℕ) (b : Block) (n : Name) (before after : Assembling) (old new : Tree) : Type 0 where
  pub bytes : List ℕ
  pub put : IsPut i bytes before after
  pub written : new ≡ temp_written old n b.offset bytes

-- the temporary file has the bytes of the blocks, and no others
pub record HoldsBlocks (blocks : List Block) (n : Name) (t : Tree) : Type 0 where
  pub bytes : List ℕ
  pub held : t.temps n ≡ Some bytes
  pub own : AreOf blocks bytes

-- Bytes that were found for a block: if they are not the block's, so many of the devices have none of it.
abbrev pub IsFound : {B : Type 0} → Gives B → Identity → Name → List Identity → B → Block → List ℕ → ℕ → Type 0
IsFound gives me n ds now b bytes asked = put_answer b bytes ≢ Ok → HasNoBytes gives me n (take asked ds) now b

-- as many bytes as the block has were found, or none of the devices gave them
abbrev pub Finds : {B : Type 0} → Gives B → Identity → Name → List Identity → B → Block → List ℕ → Option ℕ → Type 0
Finds gives me n ds now b bytes found =
    MatchOption found (AskedInVain gives me n b ds now) (λ asked. (length bytes ≡ b.size) × IsFound gives me n ds now b bytes asked)

-- the bytes begin with as many as the block has, of which this holds
pub record BeginsWith (P : Block → List ℕ → ℕ → Type 0) (b : Block) (bytes : List ℕ) (asked : ℕ) : Type 0 where
  pub size : length (take b.size bytes) ≡ b.size
  pub found : P b (take b.size bytes) asked

-- so it is with each of the first blocks, one after the other: as many as there are numbers
abbrev pub AreFound : (Block → List ℕ → ℕ → Type 0) → List Block → List ℕ → List ℕ → Type 0
AreFound P blocks bytes [] = bytes ≡ []
AreFound P [] bytes (k ∷ ks) = ⊥
AreFound P (b ∷ bs) bytes (k ∷ ks) = BeginsWith P b bytes k × AreFound P bs (drop b.size bytes) ks
