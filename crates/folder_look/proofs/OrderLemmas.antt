-- Entries in the order of their names, each once.
use Rattle.std.proofs.Common.{◌≡◌, Bool, List, [], ◌∷◌, ℕ, map}
use Rattle.std.specs.Prelude.{bytes_eq}
use Rattle.std.specs.List.{AllByRecursion, dedup}
use Rattle.std.specs.List.Sorted.{IsSortedBy, IsStrictlySortedBy}
use Rattle.std.specs.declared.cmp.Ordering.{Ordering}
use Rattle.std.specs.declared.cmp.Ordering.TheVariants.{Less}
use Rattle.std.specs.Cmp.{IsEquivalence, IsStrictWeakOrder, on_total}
use Rattle.std.specs.Cmp.Lexicographic.{nat_list_cmp_total, nat_list_eq_equiv, slice_cmp, texts_ties}
use Rattle.std.specs.Ordering.{is_lt, nat_cmp}
use Rattle.std.specs.String.{string_bytes}
use Rattle.std.proofs.lemmas.List.Kept.{IsStrictlySortedBy-dedup}
use Rattle.std.proofs.lemmas.List.Sorted.{ranks_by}
use Rattle.folder_look.specs.declared.facts.Entry.{Entry}

abbrev pub order : List ℕ → List ℕ → Ordering
order = slice_cmp nat_cmp

abbrev pub key : Entry → List ℕ
key e = string_bytes e.name

-- entries by their names
abbrev pub before : Entry → Entry → Bool
before d e = is_lt (order (key d) (key e))

abbrev pub same_name : Entry → Entry → Bool
same_name d e = bytes_eq (key d) (key e)

pub before_ranks : IsStrictWeakOrder before
before_ranks = ranks_by nat_list_cmp_total key

pub same_name_is_equivalence : IsEquivalence same_name
same_name_is_equivalence = record {
  refl = λ e. nat_list_eq_equiv.refl (key e);
  symm = λ d e. nat_list_eq_equiv.symm (key d) (key e);
  congr = λ d e f. nat_list_eq_equiv.congr (key d) (key e) (key f);
}

all_after : (n : List ℕ) (es : List Entry) → AllByRecursion (λ e. order n (key e) ≡ Less) es → AllByRecursion (λ m. order n m ≡ Less) (map key es)
all_after n [] h = tt
all_after n (e ∷ es) h = (h.0, all_after n es h.1)

names_ascend : (es : List Entry) → IsStrictlySortedBy (λ d e. order (key d) (key e)) es → IsStrictlySortedBy order (map key es)
unfolding IsStrictlySortedBy
names_ascend [] h = tt
names_ascend (e ∷ es) h = (all_after (key e) es h.0, names_ascend es h.1)

pub dedup_ascends : (es : List Entry) → IsSortedBy before es → IsStrictlySortedBy order (map key (dedup same_name es))
dedup_ascends es h = names_ascend (dedup same_name es) (IsStrictlySortedBy-dedup (on_total key nat_list_cmp_total) (λ d e. texts_ties (key d) (key e)) es h)
