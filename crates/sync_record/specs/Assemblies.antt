-- Files put together from blocks (own rule; the digest by FIPS 180-4).
use Rattle.std.specs.Prelude.{◌≡◌, bytes_eq, ℕ, Bool, true, false, not, map, slice_set, ◌&&◌, ◌||◌, ◌==◌, if◌then◌else◌, List, All, length, IsTrue}
use Rattle.std.specs.List.{list_all, AllZip}
use Rattle.sha2.specs.Sha256.{sha256}
use Rattle.sync_blocks.specs.declared.block.Block.{Block}
use Rattle.sync_record.specs.declared.put.Put.{Put}
use Rattle.sync_record.specs.declared.put.Put.TheVariants.{WrongSize, WrongHash, Ok}
use Rattle.sync_record.specs.Records.{FileRecord, is_live_file, is_directory}
use Rattle.sync_record.specs.Validity.{is_valid}

-- a file that is put together: what it is to be, and of each block whether it was put
pub record Assembling : Type 0 where
  pub target : FileRecord
  pub placed : List Bool

-- what the put of these bytes as this block comes to: the size is tested first
abbrev pub put_answer : Block → List ℕ → Put
put_answer b bytes =
    if not (length bytes == b.size) then WrongSize else (if not (bytes_eq (sha256 bytes) b.hash) then WrongHash else Ok)

-- no block was put yet
abbrev pub nothing_placed : FileRecord → Assembling
nothing_placed target = record { target = target; placed = map (λ b. false) target.blocks }

-- the block counts as put where the put came to Ok
abbrev pub with_put : Put → ℕ → Assembling → Assembling
with_put Ok i a = record a { placed = slice_set a.placed i true }
with_put WrongSize i a = a
with_put WrongHash i a = a

-- every block was put
abbrev pub is_complete : Assembling → Bool
is_complete a = list_all (λ placed. placed) a.placed

-- a deletion or a directory, which has no blocks
abbrev pub is_plain : FileRecord → Bool
is_plain r = r.deleted || is_directory r

-- some bytes have the block's size and digest
pub record HasBytes (b : Block) : Type 0 where
  pub bytes : List ℕ
  pub size : length bytes ≡ b.size
  pub digest : sha256 bytes ≡ b.hash

abbrev pub IsAssembled : FileRecord → Type 0
IsAssembled target = All HasBytes target.blocks

-- What holds of every file that is put together: it is a valid live file, and a block that was put has bytes.
pub record IsAssembling (a : Assembling) : Type 0 where
  pub valid : IsTrue (is_valid a.target && is_live_file a.target)
  pub placed : AllZip (λ placed b. IsTrue placed → HasBytes b) a.placed a.target.blocks
