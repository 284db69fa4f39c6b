-- A record of a message, and the message of a record (Block Exchange Protocol v1, "Fields of the FileInfo message";
-- what becomes of unreadable values is this project's own rule).
use Rattle.std.specs.Prelude.{ℕ, Bool, false, true, not, ◌&&◌, ◌==◌, if◌then◌else◌, ℤ, pos, negsuc, List, [], map, length}
use Rattle.std.specs.List.{list_all}
use Rattle.std.specs.Ordering.{int_eq}
use Rattle.sync_version.specs.Versions.{Vector}
use Rattle.sync_version.specs.Computed.{from_counters}
use Rattle.sync_blocks.specs.declared.block.Block.{Block}
use Rattle.sync_blocks.specs.declared.size.TheConstants.{MIN_BLOCK_SIZE}
use Rattle.bep_messages.specs.declared.file_info.FileInfo.{FileInfo}
use Rattle.bep_messages.specs.declared.block_info.BlockInfo.{BlockInfo}
use Rattle.bep_messages.specs.declared.counter.Counter.{Counter}
use Rattle.sync_record.specs.declared.fields.Plain.{Plain}
use Rattle.sync_record.specs.Records.{FileRecord}
use Rattle.sync_record.specs.Validity.{describes_file}

-- a negative number is read as 0
abbrev pub natural : ℤ → ℕ
natural (pos n) = n
natural (negsuc n) = 0

abbrev pub is_natural : ℤ → Bool
is_natural (pos n) = true
is_natural (negsuc n) = false

-- nothing of the block is negative, and its digest has 32 bytes
abbrev pub is_block : BlockInfo → Bool
is_block b = is_natural b.offset && is_natural b.size && (length b.hash == 32)

abbrev pub block_of : BlockInfo → Block
block_of b = record { offset = natural b.offset; size = natural b.size; hash = b.hash }

abbrev pub version_of : List Counter → Vector
version_of counters = from_counters (map (λ c. (c.id, c.value)) counters)

-- a block size of 0 is 128 KiB
abbrev pub block_size_of : ℤ → ℤ
block_size_of n = if int_eq n (pos 0) then pos MIN_BLOCK_SIZE else n

-- a message's size, block size and blocks agree
abbrev pub agrees : ℤ → ℤ → List BlockInfo → Bool
agrees size block_size blocks =
    list_all is_block blocks && describes_file size (block_size_of block_size) (map block_of blocks)

abbrev pub is_file_info : FileInfo → Bool
is_file_info info = agrees info.size info.block_size info.blocks

abbrev pub is_live_file_info : FileInfo → Bool
is_live_file_info info = not info.deleted && int_eq info.kind (pos 0)

-- the record of the message with this mark and these blocks
abbrev pub record_with : FileInfo → Bool → List Block → FileRecord
record_with info invalid blocks = record {
  name = info.name;
  type_number = info.kind;
  size = info.size;
  permissions = info.permissions;
  modified_s = info.modified_s;
  modified_ns = info.modified_ns;
  modified_by = info.modified_by;
  deleted = info.deleted;
  invalid = invalid;
  no_permissions = info.no_permissions;
  version = version_of info.version.counters;
  sequence = natural info.sequence;
  block_size = block_size_of info.block_size;
  blocks = blocks;
  symlink_target = info.symlink_target;
}

-- the numbers and flags of the record with the message's own mark
abbrev pub plain_of : FileInfo → Plain
plain_of info = record {
  type_number = info.kind;
  size = info.size;
  permissions = info.permissions;
  modified_s = info.modified_s;
  modified_ns = info.modified_ns;
  modified_by = info.modified_by;
  deleted = info.deleted;
  invalid = info.invalid;
  no_permissions = info.no_permissions;
  block_size = block_size_of info.block_size;
}

-- those numbers and flags with the mark that the blocks leave, and the blocks that are kept
abbrev pub content_of : Plain → List BlockInfo → Plain × List Block
content_of plain blocks =
    if not plain.deleted && int_eq plain.type_number (pos 0)
    then (
    if list_all is_block blocks && describes_file plain.size plain.block_size (map block_of blocks)
    then (plain, map block_of blocks)
    else (record plain { invalid = true }, [])
    )
    else (plain, [])

-- What isn't a live file has no blocks. A live file has those of the message, where they make up a file; else it is
-- invalid and has none.
abbrev pub record_of : FileInfo → FileRecord
record_of info =
    if is_live_file_info info
    then (if is_file_info info then record_with info info.invalid (map block_of info.blocks) else record_with info true [])
    else record_with info info.invalid []

abbrev pub block_info_of : Block → BlockInfo
block_info_of b = record { offset = pos b.offset; size = pos b.size; hash = b.hash }

abbrev pub counter_of : ℕ × ℕ → Counter
counter_of c = record { id = c.0; value = c.1 }

-- the message of a record
abbrev pub info_of : FileRecord → FileInfo
info_of r = record {
  name = r.name;
  kind = r.type_number;
  size = r.size;
  permissions = r.permissions;
  modified_s = r.modified_s;
  deleted = r.deleted;
  invalid = r.invalid;
  no_permissions = r.no_permissions;
  version = record { counters = map counter_of r.version };
  sequence = pos r.sequence;
  modified_ns = r.modified_ns;
  modified_by = r.modified_by;
  block_size = r.block_size;
  blocks = map block_info_of r.blocks;
  symlink_target = r.symlink_target;
}
