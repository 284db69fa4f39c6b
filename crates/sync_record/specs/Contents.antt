-- When two records are of the same content (own rule).
use Rattle.std.specs.Prelude.{bytes_eq, Bool, true, false, ◌&&◌, ◌||◌, pos}
use Rattle.std.specs.Ordering.{int_eq}
use Rattle.std.specs.Cmp.Lexicographic.{pointwise}
use Rattle.sync_blocks.specs.Tiling.{same_block}
use Rattle.sync_record.specs.declared.kind.Kind.{Kind}
use Rattle.sync_record.specs.declared.kind.Kind.TheVariants.{File, Directory, Other}
use Rattle.sync_record.specs.Records.{FileRecord, is_live, kind_of}

-- files agree in their size, and, where they aren't empty, in their block size and blocks
abbrev pub same_file : FileRecord → FileRecord → Bool
same_file a b =
    int_eq a.size b.size
    && (int_eq a.size (pos 0) || (int_eq a.block_size b.block_size && pointwise same_block a.blocks b.blocks))

-- what is neither a file nor a directory agrees in its type and where it leads
abbrev pub same_other : FileRecord → FileRecord → Bool
same_other a b = int_eq a.type_number b.type_number && bytes_eq a.symlink_target b.symlink_target

-- two live records of these kinds agree in what the kind has
abbrev pub same_of_kinds : Kind → Kind → FileRecord → FileRecord → Bool
same_of_kinds Directory Directory a b = true
same_of_kinds File File a b = same_file a b
same_of_kinds Other Other a b = same_other a b
same_of_kinds _ _ a b = false

-- both are deleted; or both are live and of one kind, and agree in what that kind has
abbrev pub same_content : FileRecord → FileRecord → Bool
same_content a b =
    (a.deleted && b.deleted)
    || (is_live a && is_live b && same_of_kinds (kind_of a) (kind_of b) a b)
