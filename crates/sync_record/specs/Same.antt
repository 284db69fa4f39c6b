-- When two records are the same in every field.
use Rattle.std.specs.Prelude.{bytes_eq, Bool, ◌&&◌, ◌==◌}
use Rattle.std.specs.Bool.{beq}
use Rattle.std.specs.Ordering.{int_eq}
use Rattle.std.specs.Cmp.{IsEquivalence, and_equiv, on_equiv, nat_eq_equiv, int_eq_equiv, bool_eq_equiv}
use Rattle.std.specs.Cmp.Lexicographic.{pointwise, lists_equiv, nat_list_eq_equiv}
use Rattle.sync_version.specs.Computed.{same_version, same_version_equiv}
use Rattle.sync_blocks.specs.Tiling.{same_block}
use Rattle.sync_record.specs.Records.{FileRecord}

-- the same numbers and flags
abbrev pub same_numbers : FileRecord → FileRecord → Bool
same_numbers a b =
    int_eq a.type_number b.type_number
    && int_eq a.size b.size
    && (a.permissions == b.permissions)
    && int_eq a.modified_s b.modified_s
    && int_eq a.modified_ns b.modified_ns
    && (a.modified_by == b.modified_by)
    && beq a.deleted b.deleted
    && beq a.invalid b.invalid
    && beq a.no_permissions b.no_permissions
    && int_eq a.block_size b.block_size
    && (a.sequence == b.sequence)

abbrev pub same_record : FileRecord → FileRecord → Bool
same_record a b =
    same_numbers a b
    && bytes_eq a.name b.name
    && same_version a.version b.version
    && bytes_eq a.symlink_target b.symlink_target
    && pointwise same_block a.blocks b.blocks

same_block_equiv : IsEquivalence same_block
same_block_equiv =
    and_equiv (and_equiv (on_equiv (λ b. b.offset) nat_eq_equiv) (on_equiv (λ b. b.size) nat_eq_equiv))
    (on_equiv (λ b. b.hash) nat_list_eq_equiv)

same_numbers_equiv : IsEquivalence same_numbers
same_numbers_equiv =
    and_equiv (and_equiv (and_equiv (and_equiv (and_equiv (and_equiv (and_equiv (and_equiv (and_equiv (and_equiv
    (on_equiv (λ r. r.type_number) int_eq_equiv) (on_equiv (λ r. r.size) int_eq_equiv)) (on_equiv (λ r. r.permissions) nat_eq_equiv))
    (on_equiv (λ r. r.modified_s) int_eq_equiv)) (on_equiv (λ r. r.modified_ns) int_eq_equiv)) (on_equiv (λ r. r.modified_by) nat_eq_equiv))
    (on_equiv (λ r. r.deleted) bool_eq_equiv)) (on_equiv (λ r. r.invalid) bool_eq_equiv)) (on_equiv (λ r. r.no_permissions) bool_eq_equiv))
    (on_equiv (λ r. r.block_size) int_eq_equiv)) (on_equiv (λ r. r.sequence) nat_eq_equiv)

-- the test is reflexive, symmetric and transitive
pub same_record_equiv : IsEquivalence same_record
same_record_equiv =
    and_equiv (and_equiv (and_equiv (and_equiv same_numbers_equiv (on_equiv (λ r. r.name) nat_list_eq_equiv))
    (on_equiv (λ r. r.version) same_version_equiv)) (on_equiv (λ r. r.symlink_target) nat_list_eq_equiv))
    (on_equiv (λ r. r.blocks) (lists_equiv same_block_equiv))
