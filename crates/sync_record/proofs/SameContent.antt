-- To be of the same content is an equivalence.
use Rattle.std.proofs.Common.{◌≡◌, Bool, true, false, not, ◌&&◌, ◌||◌, IsTrue, pos, refl, sym, ap, ◌∙◌, rules}
use Rattle.std.specs.Ordering.{int_eq}
use Rattle.std.specs.Cmp.{IsEquivalence, int_eq_equiv, on_equiv, and_equiv, nat_eq_equiv}
use Rattle.std.specs.Cmp.Lexicographic.{pointwise, lists_equiv, nat_list_eq_equiv}
use Rattle.std.proofs.lemmas.Bool.{and_parts}
use Rattle.sync_blocks.specs.Tiling.{same_block}
use Rattle.sync_record.specs.declared.kind.Kind.{Kind}
use Rattle.sync_record.specs.declared.kind.Kind.TheVariants.{File, Directory, Other}
use Rattle.sync_record.specs.Records.{FileRecord, kind_of}
use Rattle.sync_record.specs.Contents.{same_content, same_file, same_of_kinds, same_other}

blocks_equiv : IsEquivalence same_block
blocks_equiv = and_equiv (and_equiv (on_equiv (λ b. b.offset) nat_eq_equiv) (on_equiv (λ b. b.size) nat_eq_equiv)) (on_equiv (λ b. b.hash) nat_list_eq_equiv)

others_equiv : IsEquivalence same_other
others_equiv = and_equiv (on_equiv (λ r. r.type_number) int_eq_equiv) (on_equiv (λ r. r.symlink_target) nat_list_eq_equiv)

either : (a : Bool) → (a || true) ≡ true
either true = refl
either false = refl

-- what alike elements agree in, unless they pass a test
module _ {K : Type 0} (E S : K → K → Bool) (p : K → Bool) (e : IsEquivalence E) (s : IsEquivalence S) (same : (a b : K) → E a b ≡ true → p a ≡ p b) where
  turned : (a b : K) (alike : Bool) → E a b ≡ alike → (E a b && (p a || S a b)) ≡ (E b a && (p b || S b a))
  turned a b true is = λ i. e.symm a b i && (same a b is i || s.symm a b i)
  turned a b false is = ap (λ t. t && (p a || S a b)) is ∙ sym (ap (λ t. t && (p b || S b a)) (sym (e.symm a b) ∙ is))

  other : (a b c : K) (passes : Bool) → p a ≡ passes → p a ≡ p b → (p a || S a b) ≡ true → (p a || S a c) ≡ (p b || S b c)
  other a b c true is alike h = ap (λ t. t || S a c) is ∙ sym (ap (λ t. t || S b c) (sym alike ∙ is))
  other a b c false is alike h =
      let tied = sym (ap (λ t. t || S a b) is) ∙ h in
      λ i. alike i || s.congr a b c tied i

  pub unless_equiv : IsEquivalence (λ a b. E a b && (p a || S a b))
  unless_equiv = record {
    refl = λ a. (λ i. e.refl a i && (p a || s.refl a i)) ∙ either (p a);
    symm = λ a b. turned a b (E a b) refl;
    congr = λ a b c h.
        let parts = and_parts (E a b) (p a || S a b) h in
        let alike = same a b parts.0 in
        λ i. e.congr a b c parts.0 i && other a b c (p a) refl alike parts.1 i;
  }

files_equiv : IsEquivalence same_file
files_equiv =
    unless_equiv (λ a b. int_eq a.size b.size) (λ a b. int_eq a.block_size b.block_size && pointwise same_block a.blocks b.blocks) (λ a. int_eq a.size (pos 0))
    (on_equiv (λ r. r.size) int_eq_equiv)
    (and_equiv (on_equiv (λ r. r.block_size) int_eq_equiv) (on_equiv (λ r. r.blocks) (lists_equiv blocks_equiv)))
    (λ a b h. int_eq_equiv.congr a.size b.size (pos 0) h)

trans : {K : Type 0} {E : K → K → Bool} → IsEquivalence E → (a b c : K) → E a b ≡ true → E b c ≡ true → E a c ≡ true
trans e a b c h g = e.congr a b c h ∙ g

alike : (k : Kind) (a : FileRecord) → same_of_kinds k k a a ≡ true
alike File a = files_equiv.refl a
alike Directory a = refl
alike Other a = others_equiv.refl a

kinds_turned : (k l : Kind) (a b : FileRecord) → same_of_kinds k l a b ≡ same_of_kinds l k b a
kinds_turned File File a b = files_equiv.symm a b
kinds_turned File Directory a b = refl
kinds_turned File Other a b = refl
kinds_turned Directory File a b = refl
kinds_turned Directory Directory a b = refl
kinds_turned Directory Other a b = refl
kinds_turned Other File a b = refl
kinds_turned Other Directory a b = refl
kinds_turned Other Other a b = others_equiv.symm a b

kinds_joined : (k l m : Kind) (a b c : FileRecord) → same_of_kinds k l a b ≡ true → same_of_kinds l m b c ≡ true → same_of_kinds k m a c ≡ true
kinds_joined File File File a b c h g = trans files_equiv a b c h g
kinds_joined File File Directory a b c h g = g
kinds_joined File File Other a b c h g = g
kinds_joined File Directory m a b c h g = absurd (search (rules, h))
kinds_joined File Other m a b c h g = absurd (search (rules, h))
kinds_joined Directory File m a b c h g = absurd (search (rules, h))
kinds_joined Directory Directory File a b c h g = g
kinds_joined Directory Directory Directory a b c h g = refl
kinds_joined Directory Directory Other a b c h g = g
kinds_joined Directory Other m a b c h g = absurd (search (rules, h))
kinds_joined Other File m a b c h g = absurd (search (rules, h))
kinds_joined Other Directory m a b c h g = absurd (search (rules, h))
kinds_joined Other Other File a b c h g = g
kinds_joined Other Other Directory a b c h g = g
kinds_joined Other Other Other a b c h g = trans others_equiv a b c h g

-- by which of the records are deleted
abbrev same_by : Bool → Bool → Bool → Bool
same_by d e kinds = (d && e) || (not d && not e && kinds)

reflexive_by : (d k : Bool) → k ≡ true → same_by d d k ≡ true
reflexive_by true k h = refl
reflexive_by false k h = h

symmetric_by : (d e k l : Bool) → k ≡ l → same_by d e k ≡ same_by e d l
symmetric_by true true k l h = refl
symmetric_by true false k l h = refl
symmetric_by false true k l h = refl
symmetric_by false false k l h = h

transitive_by : (d e f k l m : Bool) → (k ≡ true → l ≡ true → m ≡ true) → same_by d e k ≡ true → same_by e f l ≡ true → same_by d f m ≡ true
transitive_by true true true k l m h p q = refl
transitive_by true true false k l m h p q = q
transitive_by true false f k l m h p q = absurd (search (rules, p))
transitive_by false true f k l m h p q = absurd (search (rules, p))
transitive_by false false true k l m h p q = q
transitive_by false false false k l m h p q = h p q

pub reflexive : (a : FileRecord) → IsTrue (same_content a a)
reflexive a = reflexive_by a.deleted _ (alike (kind_of a) a)

pub symmetric : (a b : FileRecord) → same_content a b ≡ same_content b a
symmetric a b = symmetric_by a.deleted b.deleted _ _ (kinds_turned (kind_of a) (kind_of b) a b)

pub transitive : (a b c : FileRecord) → IsTrue (same_content a b) → IsTrue (same_content b c) → IsTrue (same_content a c)
transitive a b c p q =
    transitive_by a.deleted b.deleted c.deleted _ _ _ (kinds_joined (kind_of a) (kind_of b) (kind_of c) a b c) p q
