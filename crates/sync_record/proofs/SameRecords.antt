-- Records that agree in every field are one.
use Rattle.std.proofs.Common.{◌≡◌, ℕ, true, List, ap}
use Rattle.std.specs.Prelude.{ℤ, bytes_eq}
use Rattle.std.specs.Bool.{Decides}
use Rattle.std.specs.Ordering.{int_eq, int_cmp, is_eq}
use Rattle.std.specs.Cmp.{Equal-is, booleans_Decides, tied_itself, int_cmp_total}
use Rattle.std.specs.Cmp.Lexicographic.{pointwise_decides}
use Rattle.std.specs.FinMap.{int_cmp-IsAntisymmetric}
use Rattle.std.proofs.lemmas.Bool.{and_parts, and_from, eqb-true, eq-eqb}
use Rattle.std.proofs.lemmas.Slice.Eq.{bytes_eq-Decides}
use Rattle.sync_version.proofs.Lemmas.{same_version_tells}
use Rattle.sync_blocks.specs.declared.block.Block.{Block}
use Rattle.sync_blocks.specs.Tiling.{same_block}
use Rattle.sync_record.specs.Records.{FileRecord}
use Rattle.sync_record.specs.Same.{same_record, same_record_equiv}

pub ints : (x y : ℤ) → int_eq x y ≡ true → x ≡ y
ints x y e = int_cmp-IsAntisymmetric x y ((Equal-is (int_cmp x y)).0 e)

pub ints-own : (x : ℤ) → int_eq x x ≡ true
ints-own x = ap is_eq (tied_itself int_cmp_total x)

bytes : (x y : List ℕ) → bytes_eq x y ≡ true → x ≡ y
bytes x y e = (bytes_eq-Decides x y).0 e

-- blocks that pass the test are one
pub block-Decides : (a b : Block) → Decides (same_block a b) (a ≡ b)
block-Decides a b = (
  λ e. let t = and_parts _ _ e in let u = and_parts _ _ t.0 in
      λ i. record { offset = eqb-true a.offset b.offset u.0 i; size = eqb-true a.size b.size u.1 i; hash = bytes a.hash b.hash t.1 i },
  λ e. and_from _ _ (and_from _ _ (eq-eqb a.offset b.offset (ap (λ (x : Block). x.offset) e)) (eq-eqb a.size b.size (ap (λ (x : Block). x.size) e)))
      ((bytes_eq-Decides a.hash b.hash).1 (ap (λ (x : Block). x.hash) e)),
)

-- records that pass the test are one
pub same_record-is : (a b : FileRecord) → same_record a b ≡ true → a ≡ b
same_record-is a b e =
    let blocks = and_parts _ _ e in
    let symlink_target = and_parts _ _ blocks.0 in
    let version = and_parts _ _ symlink_target.0 in
    let name = and_parts _ _ version.0 in
    let sequence = and_parts _ _ name.0 in
    let block_size = and_parts _ _ sequence.0 in
    let no_permissions = and_parts _ _ block_size.0 in
    let invalid = and_parts _ _ no_permissions.0 in
    let deleted = and_parts _ _ invalid.0 in
    let modified_by = and_parts _ _ deleted.0 in
    let modified_ns = and_parts _ _ modified_by.0 in
    let modified_s = and_parts _ _ modified_ns.0 in
    let permissions = and_parts _ _ modified_s.0 in
    let size = and_parts _ _ permissions.0 in
    λ i. record {
      name = bytes a.name b.name name.1 i;
      type_number = ints a.type_number b.type_number size.0 i;
      size = ints a.size b.size size.1 i;
      permissions = eqb-true a.permissions b.permissions permissions.1 i;
      modified_s = ints a.modified_s b.modified_s modified_s.1 i;
      modified_ns = ints a.modified_ns b.modified_ns modified_ns.1 i;
      modified_by = eqb-true a.modified_by b.modified_by modified_by.1 i;
      deleted = (booleans_Decides a.deleted b.deleted).0 deleted.1 i;
      invalid = (booleans_Decides a.invalid b.invalid).0 invalid.1 i;
      no_permissions = (booleans_Decides a.no_permissions b.no_permissions).0 no_permissions.1 i;
      version = (same_version_tells a.version b.version).0 version.1 i;
      sequence = eqb-true a.sequence b.sequence sequence.1 i;
      block_size = ints a.block_size b.block_size block_size.1 i;
      blocks = (pointwise_decides block-Decides a.blocks b.blocks).0 blocks.1 i;
      symlink_target = bytes a.symlink_target b.symlink_target symlink_target.1 i;
    }

pub same_record-own : (r : FileRecord) → same_record r r ≡ true
same_record-own r = same_record_equiv.refl r
