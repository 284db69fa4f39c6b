-- Entries in the order of their names, each once.
use Rattle.std.proofs.Common.{◌≡◌, Bool, List, [], ◌∷◌}
use Rattle.std.specs.Prelude.{bytes_eq, map}
use Rattle.std.specs.List.{AllByRecursion, dedup}
use Rattle.std.specs.List.Sorted.{IsSortedBy, IsStrictlySortedBy}
use Rattle.std.specs.declared.cmp.Ordering.TheVariants.{Less}
use Rattle.std.specs.Cmp.{IsEquivalence, IsStrictWeakOrder, on_total}
use Rattle.std.specs.Cmp.Lexicographic.{nat_list_cmp_total, nat_list_eq_equiv, slice_cmp, texts_ties}
use Rattle.std.specs.Ordering.{is_lt, nat_cmp}
use Rattle.std.proofs.lemmas.List.Kept.{IsStrictlySortedBy-dedup}
use Rattle.std.proofs.lemmas.List.Sorted.{ranks_by}
use Rattle.file_store.specs.declared.node.Listed.{Listed}
use Rattle.file_store.specs.Listings.{AreAscending}
use Rattle.file_store.specs.Names.{Name}

-- entries by their names
abbrev pub before : Listed → Listed → Bool
before d e = is_lt (slice_cmp nat_cmp d.name e.name)

abbrev pub same_name : Listed → Listed → Bool
same_name d e = bytes_eq d.name e.name

pub before_ranks : IsStrictWeakOrder before
before_ranks = ranks_by nat_list_cmp_total (λ (e : Listed). e.name)

pub same_name_is_equivalence : IsEquivalence same_name
same_name_is_equivalence = record {
  refl = λ e. nat_list_eq_equiv.refl e.name;
  symm = λ d e. nat_list_eq_equiv.symm d.name e.name;
  congr = λ d e f. nat_list_eq_equiv.congr d.name e.name f.name;
}

all_after : (n : Name) (es : List Listed) → AllByRecursion (λ e. slice_cmp nat_cmp n e.name ≡ Less) es → AllByRecursion (λ m. slice_cmp nat_cmp n m ≡ Less) (map (λ e. e.name) es)
all_after n [] h = tt
all_after n (e ∷ es) h = (h.0, all_after n es h.1)

names_ascend : (es : List Listed) → IsStrictlySortedBy (λ d e. slice_cmp nat_cmp d.name e.name) es → AreAscending (map (λ e. e.name) es)
unfolding IsStrictlySortedBy
names_ascend [] h = tt
names_ascend (e ∷ es) h = (all_after e.name es h.0, names_ascend es h.1)

pub dedup_ascends : (es : List Listed) → IsSortedBy before es → AreAscending (map (λ e. e.name) (dedup same_name es))
dedup_ascends es h = names_ascend (dedup same_name es) (IsStrictlySortedBy-dedup (on_total (λ (e : Listed). e.name) nat_list_cmp_total) (λ d e. texts_ties d.name e.name) es h)
