-- What a device says of one name (Block Exchange Protocol v1, "Fields of the FileInfo message").
use Rattle.std.specs.Prelude.{ℕ, Bool, not, ◌&&◌, if◌then◌else◌, ℤ, pos, List}
use Rattle.std.specs.Ordering.{int_eq}
use Rattle.sync_version.specs.Versions.{Vector}
use Rattle.sync_blocks.specs.declared.block.Block.{Block}
use Rattle.sync_record.specs.declared.kind.Kind.{Kind}
use Rattle.sync_record.specs.declared.kind.Kind.TheVariants.{File, Directory, Other}

-- a safe name, as its bytes in UTF-8
abbrev pub Name : Type 0
Name = List ℕ

-- The fields of the message, with the name safe, the version canonical and the blocks readable.
pub record FileRecord : Type 0 where
  pub name : Name
  pub type_number : ℤ
  pub size : ℤ
  pub permissions : ℕ
  pub modified_s : ℤ
  pub modified_ns : ℤ
  pub modified_by : ℕ
  pub deleted : Bool
  pub invalid : Bool
  pub no_permissions : Bool
  pub version : Vector
  pub sequence : ℕ
  pub block_size : ℤ
  pub blocks : List Block
  pub symlink_target : List ℕ

-- type number 0 is a file, 1 a directory; any other number is neither
abbrev pub kind_by : ℤ → Kind
kind_by n = if int_eq n (pos 0) then File else (if int_eq n (pos 1) then Directory else Other)

abbrev pub kind_of : FileRecord → Kind
kind_of r = kind_by r.type_number

abbrev pub is_file : FileRecord → Bool
is_file r = int_eq r.type_number (pos 0)

abbrev pub is_directory : FileRecord → Bool
is_directory r = int_eq r.type_number (pos 1)

abbrev pub is_live : FileRecord → Bool
is_live r = not r.deleted

abbrev pub is_live_file : FileRecord → Bool
is_live_file r = is_live r && is_file r
