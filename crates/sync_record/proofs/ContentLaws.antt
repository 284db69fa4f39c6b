-- What records of the same content agree in.
use Rattle.std.proofs.Common.{◌≡◌, ◌↔◌, Bool, true, false, refl, sym, ap, ◌∙◌, ◌⊎◌, inl, inr}
use Rattle.std.specs.Prelude.{cond, pos, not, ◌&&◌, ◌||◌, IsTrue}
use Rattle.std.specs.Ordering.{int_eq}
use Rattle.std.specs.Cmp.Lexicographic.{pointwise, pointwise_decides}
use Rattle.std.proofs.lemmas.Bool.{true≢false, and_parts, and_from, or_cases, or_left, or_right, not-true, not_from_false}
use Rattle.std.proofs.lemmas.Slice.Eq.{bytes_eq-Decides}
use Rattle.sync_blocks.specs.Tiling.{same_block}
use Rattle.sync_record.specs.Contents.{same_content, same_of_kinds}
use Rattle.sync_record.specs.Records.{FileRecord, kind_of, kind_by, is_file, is_directory}
use Rattle.sync_record.specs.declared.kind.Kind.{Kind}
use Rattle.sync_record.specs.declared.kind.Kind.TheVariants.{File, Directory, Other}
use Rattle.sync_record.proofs.SameRecords.{ints, ints-own, block-Decides}

abbrev by_tests : Bool → Bool → Kind
by_tests file directory = cond file File (cond directory Directory Other)

module _ (a b : FileRecord) where
  abbrev of_kind : Kind → Bool
  of_kind k = same_of_kinds k (by_tests (int_eq b.type_number (pos 0)) (int_eq b.type_number (pos 1))) a b

  file-kind : (f d : Bool) → same_of_kinds File (by_tests f d) a b ≡ true → (f ≡ true) × (same_of_kinds File File a b ≡ true)
  file-kind true d e = (refl, e)
  file-kind false true e = absurd (true≢false (sym e))
  file-kind false false e = absurd (true≢false (sym e))

  directory-kind : (f d : Bool) → same_of_kinds Directory (by_tests f d) a b ≡ true → d ≡ true
  directory-kind f true e = refl
  directory-kind true false e = absurd (true≢false (sym e))
  directory-kind false false e = absurd (true≢false (sym e))

  other-kind : (f d : Bool) → same_of_kinds Other (by_tests f d) a b ≡ true → same_of_kinds Other Other a b ≡ true
  other-kind true d e = absurd (true≢false (sym e))
  other-kind false true e = absurd (true≢false (sym e))
  other-kind false false e = e

  pub deleted-content : a.deleted ≡ true → IsTrue (same_content a b) ↔ (b.deleted ≡ true)
  deleted-content gone = (
    λ e. by b.deleted refl (sym (computes gone) ∙ e),
    λ e. computes gone ∙ ap (λ t. t || false) e,
  )
    where
      computes : a.deleted ≡ true → same_content a b ≡ (b.deleted || false)
      computes g = λ i. (g i && b.deleted) || (not (g i) && not b.deleted && same_of_kinds (kind_of a) (kind_of b) a b)

      by : (t : Bool) → b.deleted ≡ t → (t || false) ≡ true → b.deleted ≡ true
      by true is e = is
      by false is e = absurd (true≢false (sym e))

  module _ (live : a.deleted ≡ false) where
    -- of a live record
    lives : (k : Kind) → kind_of a ≡ k → same_content a b ≡ (not b.deleted && of_kind k)
    lives k is = λ i. (live i && b.deleted) || (not (live i) && not b.deleted && same_of_kinds (is i) (kind_of b) a b)

    pub directory-content : is_directory a ≡ true → IsTrue (same_content a b) ↔ ((b.deleted ≡ false) × IsTrue (is_directory b))
    directory-content kind = (
      λ e.
          let t = and_parts (not b.deleted) _ (sym (lives Directory here) ∙ e) in
          (not-true b.deleted t.0, directory-kind (int_eq b.type_number (pos 0)) (int_eq b.type_number (pos 1)) t.1),
      λ h.
          lives Directory here
          ∙ and_from (not b.deleted) _ (not_from_false b.deleted h.0) (ap (λ t. same_of_kinds Directory (kind_by t) a b) (ints b.type_number (pos 1) h.1)),
    )
      where
        here : kind_of a ≡ Directory
        here = ap kind_by (ints a.type_number (pos 1) kind)

    pub file-content : is_file a ≡ true → IsTrue (same_content a b) ↔ ((b.deleted ≡ false) × IsTrue (is_file b) × (a.size ≡ b.size) × ((a.size ≡ pos 0) ⊎ ((a.block_size ≡ b.block_size) × (a.blocks ≡ b.blocks))))
    file-content kind = (
      λ e.
          let t = and_parts (not b.deleted) _ (sym (lives File here) ∙ e) in
          let k = file-kind (int_eq b.type_number (pos 0)) (int_eq b.type_number (pos 1)) t.1 in
          let w = and_parts (int_eq a.size b.size) _ k.1 in
          (not-true b.deleted t.0, k.0, ints a.size b.size w.0, equal (or_cases (int_eq a.size (pos 0)) _ w.1)),
      λ h.
          lives File here
          ∙ and_from (not b.deleted) _ (not_from_false b.deleted h.0)
          (ap (λ t. same_of_kinds File (kind_by t) a b) (ints b.type_number (pos 0) h.1)
          ∙ and_from (int_eq a.size b.size) _ (ap (int_eq a.size) (sym h.2) ∙ ints-own a.size) (back h.3)),
    )
      where
        here : kind_of a ≡ File
        here = ap kind_by (ints a.type_number (pos 0) kind)

        equal : (int_eq a.size (pos 0) ≡ true) ⊎ ((int_eq a.block_size b.block_size && pointwise same_block a.blocks b.blocks) ≡ true) → (a.size ≡ pos 0) ⊎ ((a.block_size ≡ b.block_size) × (a.blocks ≡ b.blocks))
        equal (inl z) = inl (ints a.size (pos 0) z)
        equal (inr x) = let p = and_parts (int_eq a.block_size b.block_size) _ x in inr (ints a.block_size b.block_size p.0, (pointwise_decides block-Decides a.blocks b.blocks).0 p.1)

        back : (a.size ≡ pos 0) ⊎ ((a.block_size ≡ b.block_size) × (a.blocks ≡ b.blocks)) → (int_eq a.size (pos 0) || (int_eq a.block_size b.block_size && pointwise same_block a.blocks b.blocks)) ≡ true
        back (inl z) = or_left _ _ (ap (λ t. int_eq t (pos 0)) z)
        back (inr x) = or_right (int_eq a.size (pos 0)) _ (and_from _ _ (ap (int_eq a.block_size) (sym x.0) ∙ ints-own a.block_size) ((pointwise_decides block-Decides a.blocks b.blocks).1 x.1))

    pub other-content : is_file a ≡ false → is_directory a ≡ false → IsTrue (same_content a b) ↔ ((b.deleted ≡ false) × (a.type_number ≡ b.type_number) × (a.symlink_target ≡ b.symlink_target))
    other-content file directory = (
      λ e.
          let t = and_parts (not b.deleted) _ (sym (lives Other here) ∙ e) in
          let w = and_parts (int_eq a.type_number b.type_number) _ (other-kind (int_eq b.type_number (pos 0)) (int_eq b.type_number (pos 1)) t.1) in
          (not-true b.deleted t.0, ints a.type_number b.type_number w.0, (bytes_eq-Decides a.symlink_target b.symlink_target).0 w.1),
      λ h.
          lives Other here
          ∙ and_from (not b.deleted) _ (not_from_false b.deleted h.0)
          (ap (λ k. same_of_kinds Other k a b) (ap kind_by (sym h.1) ∙ here)
          ∙ and_from _ _ (ap (int_eq a.type_number) (sym h.1) ∙ ints-own a.type_number) ((bytes_eq-Decides a.symlink_target b.symlink_target).1 h.2)),
    )
      where
        here : kind_of a ≡ Other
        here = λ i. by_tests (file i) (directory i)
