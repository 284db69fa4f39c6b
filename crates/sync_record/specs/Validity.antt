-- Which records may take part in a folder (own rule).
use Rattle.std.specs.Prelude.{◌≡◌, ◌≢◌, ◌<◌, ◌^◌, All, Bool, false, not, ◌&&◌, ◌||◌, ◌==◌, ℤ, pos, negsuc, List, length, IsTrue}
use Rattle.sync_names.specs.Safe.{IsSafe}
use Rattle.sync_version.specs.Versions.{IsCanonical}
use Rattle.sync_blocks.specs.declared.block.Block.{Block}
use Rattle.sync_blocks.specs.Sizes.{is_block_size}
use Rattle.sync_blocks.specs.Tiling.{tiles}
use Rattle.sync_record.specs.Records.{FileRecord, is_live_file}

-- a file's size, block size and blocks agree; that each digest has 32 bytes is in the type of a block
abbrev pub describes_file : ℤ → ℤ → List Block → Bool
describes_file (pos size) (pos block_size) blocks = is_block_size block_size && tiles blocks size block_size
describes_file (pos size) (negsuc n) blocks = false
describes_file (negsuc n) block_size blocks = false

-- the record describes a live file
abbrev pub has_file : FileRecord → Bool
has_file r = is_live_file r && describes_file r.size r.block_size r.blocks

-- only a live file can say what can't be
abbrev pub is_well_formed : FileRecord → Bool
is_well_formed r = not (is_live_file r) || describes_file r.size r.block_size r.blocks

abbrev pub is_valid : FileRecord → Bool
is_valid r = not r.invalid && is_well_formed r

abbrev pub has_no_blocks : FileRecord → Bool
has_no_blocks r = length r.blocks == 0

-- What holds of every record that is kept: it is invalid if it isn't well formed, it has blocks only if they
-- make up a live file, and it has a block size.
pub record IsKept (r : FileRecord) : Type 0 where
  pub marked : IsTrue (r.invalid || is_well_formed r)
  pub blocks : IsTrue (has_no_blocks r || has_file r)
  pub block_size : r.block_size ≢ pos 0

-- a block whose offset and size fit a message's, with a digest of 32 bytes
pub record FitsBlockInfo (b : Block) : Type 0 where
  pub offset : b.offset < 2 ^ 63
  pub size : b.size < 2 ^ 31
  pub hash : length b.hash ≡ 32

-- a record whose name is safe, whose version is canonical, and whose sequence and blocks fit a message's
pub record FitsFileInfo (r : FileRecord) : Type 0 where
  pub name : IsSafe r.name
  pub version : IsCanonical r.version
  pub sequence : r.sequence < 2 ^ 63
  pub blocks : All FitsBlockInfo r.blocks
