-- Records of a device's own changes (own rule). None of them announces permissions.
use Rattle.std.specs.Prelude.{ℕ, true, false, pos, List, []}
use Rattle.sync_blocks.specs.declared.block.Block.{Block}
use Rattle.sync_blocks.specs.declared.size.TheConstants.{MIN_BLOCK_SIZE}
use Rattle.sync_record.specs.declared.own.Edit.{Edit}
use Rattle.sync_record.specs.Records.{Name, FileRecord}

-- a directory after the edit
abbrev pub directory_record : Name → Edit → FileRecord
directory_record name edit = record {
  name = name;
  type_number = pos 1;
  size = pos 0;
  permissions = 0;
  modified_s = edit.modified_s;
  modified_ns = edit.modified_ns;
  modified_by = edit.modified_by;
  deleted = false;
  invalid = false;
  no_permissions = true;
  version = edit.version;
  sequence = 0;
  block_size = pos MIN_BLOCK_SIZE;
  blocks = [];
  symlink_target = [];
}

-- a file of this size, block size and these blocks after the edit
abbrev pub file_record : Name → ℕ → ℕ → List Block → Edit → FileRecord
file_record name size block_size blocks edit = record {
  name = name;
  type_number = pos 0;
  size = pos size;
  permissions = 0;
  modified_s = edit.modified_s;
  modified_ns = edit.modified_ns;
  modified_by = edit.modified_by;
  deleted = false;
  invalid = false;
  no_permissions = true;
  version = edit.version;
  sequence = 0;
  block_size = pos block_size;
  blocks = blocks;
  symlink_target = [];
}

-- what the record was of, deleted by the edit
abbrev pub deletion_of : FileRecord → Edit → FileRecord
deletion_of r edit = record r {
  size = pos 0;
  permissions = 0;
  modified_s = edit.modified_s;
  modified_ns = edit.modified_ns;
  modified_by = edit.modified_by;
  deleted = true;
  invalid = false;
  no_permissions = true;
  version = edit.version;
  blocks = [];
}
