-- What is kept of each name, after a change of one name or of all.
use Rattle.std.proofs.Common.{◌≡◌, ◌∙◌, ℕ, ◌+◌, true, List, [], length, get_or, Option, Result, Ok, Err, sym, ap, arith, cond, inl, inr}
use Rattle.std.specs.BTreeMap.{BTreeMap, UpdatesBy, get, is_at}
use Rattle.std.specs.Cmp.Lexicographic.{nat_list_cmp_total, slice_cmp}
use Rattle.std.specs.List.{filter}
use Rattle.std.specs.List.Sorted.{IsBinarySearchResult, IsSearchInRange, IsSortedBy}
use Rattle.std.specs.Map.{lookup}
use Rattle.std.specs.Ordering.{is_eq, is_lt, nat_cmp, ordering_reverse}
use Rattle.std.specs.Prelude.{OnErr, bytes_eq, is_ok}
use Rattle.std.specs.declared.cmp.Ordering.{Ordering}
use Rattle.std.specs.declared.cmp.Ordering.TheVariants.{Less, Equal, Greater}
use Rattle.std.proofs.lemmas.Bool.{cases_lt}
use Rattle.std.proofs.lemmas.List.Folds.{list_any_at, list_any_none}
use Rattle.std.proofs.lemmas.List.Sorted.{searchable_from_sorted}
use Rattle.std.proofs.lemmas.Map.Entries.{lookup-filter-keys}
use Rattle.std.proofs.lemmas.Map.Keys.{Less-from_sorted}
use Rattle.std.proofs.lemmas.Map.Text.{is_eq-slice_cmp}
use Rattle.std.proofs.lemmas.Slice.Eq.{bytes_eq-Decides}
use Rattle.node_need.specs.declared.retries.Retry.{Retry}
use Rattle.node_need.specs.Retries.{AreInOrder, Name, is_among, only_at, put_at}

pub on_err : {T E P : Type 0} (r : Result T E) → P → OnErr r P
on_err (Ok x) p = tt
on_err (Err e) p = p

abbrev pub at : BTreeMap Name Retry → Name → Option Retry
at m q = get (slice_cmp nat_cmp) m q

pub put_is : (m n : BTreeMap Name Retry) (name : Name) (w : Option Retry) → UpdatesBy (slice_cmp nat_cmp) (slice_cmp nat_cmp name) m n w → at n ≡ put_at name w (at m)
put_is m n name w u = λ t q. (u.0 q ∙ ap (λ b. cond b w (at m q)) (is_eq-slice_cmp name q)) t

pub same_is : (m n : BTreeMap Name Retry) → n.entries ≡ m.entries → at n ≡ at m
same_is m n e = λ t q. lookup (is_at (slice_cmp nat_cmp q)) (e t)

alike : (q k : Name) → is_eq (slice_cmp nat_cmp q k) ≡ true → q ≡ k
alike q k e = (bytes_eq-Decides q k).0 (sym (is_eq-slice_cmp q k) ∙ e)

pub only_is : (names : List Name) (m n : BTreeMap Name Retry) → n.entries ≡ filter (λ e. is_among names e.0) m.entries → at n ≡ only_at names (at m)
only_is names m n is = λ t q. (
    ap (lookup (is_at (slice_cmp nat_cmp q))) is
    ∙ lookup-filter-keys (is_at (slice_cmp nat_cmp q)) (is_among names) (is_among names q) (λ k e. ap (is_among names) (sym (alike q k e))) m.entries) t

-- ---- a search among names in byte order

in_order : (xs : List Name) → AreInOrder xs → IsSortedBy (λ a b. is_lt (slice_cmp nat_cmp a b)) xs
in_order xs sorted = λ k d low lt.
    ap is_lt (nat_list_cmp_total.antisymm (get_or xs (k + 1) d) (get_or xs k d)
    ∙ ap ordering_reverse (Less-from_sorted (slice_cmp nat_cmp) xs k (k + 1) d sorted (omega arith) lt))

tells : (x y : Name) (o : Ordering) → slice_cmp nat_cmp y x ≡ o → bytes_eq x y ≡ is_eq (ordering_reverse o)
tells x y o e = sym (is_eq-slice_cmp x y) ∙ ap is_eq (nat_list_cmp_total.antisymm x y ∙ ap ordering_reverse e)

pub search_finds : (xs : List Name) (x : Name) (r : Result ℕ ℕ) → IsBinarySearchResult (λ y. slice_cmp nat_cmp y x) xs r → IsSearchInRange r (length xs) → AreInOrder xs → is_ok r ≡ is_among xs x
search_finds xs x (Ok i) found within sorted =
    sym (list_any_at (bytes_eq x) xs i [] within (tells x (get_or xs i []) Equal (found [])))
search_finds xs x (Err i) found within sorted =
    let parted = found (searchable_from_sorted nat_list_cmp_total (λ (y : Name). y) xs x (in_order xs sorted)) in
    sym (list_any_none (bytes_eq x) xs (λ k d lt.
    elim (cases_lt k i) [
      | inl below ↦ tells x (get_or xs k d) Less (parted.0 k d (omega arith) below)
      | inr above ↦ tells x (get_or xs k d) Greater (parted.1 k d above lt)
    ]))
