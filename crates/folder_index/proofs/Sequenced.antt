-- A tree map's entries as a finite map.
use Rattle.std.proofs.Common.{◌≡◌, ℕ, ◌+◌, ◌-◌, ◌^◌, ◌<◌, ◌≤◌, ◌++◌, ◌⊎◌, min, arith, ◌==◌, true, false, List, [], ◌∷◌, length, refl, sym, ap, subst, ◌∙◌, inl, inr}
use Rattle.std.specs.Prelude.{◌&&◌, cond, T, Some, None, filter, map, nat_lt}
use Rattle.std.specs.BTreeMap.{is_at}
use Rattle.std.specs.Map.{keys_of, lookup}
use Rattle.std.specs.Cmp.{Equal-is, IsTotalOrder, IsEquivalence, eq_by_cmp_equiv, nat_cmp_total}
use Rattle.std.specs.List.{AllByRecursion}
use Rattle.std.specs.List.Sorted.{IsStrictlySortedBy}
use Rattle.std.specs.Ordering.{eq_by_cmp, is_eq, is_lt, nat_cmp}
use Rattle.std.specs.declared.cmp.Ordering.{Ordering}
use Rattle.std.specs.declared.cmp.Ordering.TheVariants.{Less, Equal, Greater}
use Rattle.std.specs.declared.ops.Bound.TheVariants.{Excluded, Unbounded}
use Rattle.std.specs.BTreeMap.Range.{entries_between}
use Rattle.std.specs.FinMap.{IsAntisymmetric, empty, empty_of_len, entries-from_sorted, from_sorted, len-entries, nat_cmp-IsAntisymmetric, values, get, get-from_sorted, get-insert, get-remove, insert, is_sorted, find, remove, same_map}
use Rattle.std.specs.FinMap.Entries.{below_all}
use Rattle.std.proofs.lemmas.Bool.{ltb-false, true≢false}
use Rattle.std.proofs.lemmas.Map.Keys.{sorted_head, sorted_tail}
use Rattle.std.proofs.lemmas.Option.{none-some}
use Rattle.std.proofs.lemmas.List.{length-append}
use Rattle.std.proofs.lemmas.List.Sums.{sum_by_push}
use Rattle.folder_core.specs.Reads.{fits_page}
use Rattle.folder_core.proofs.ReadPages.{blocks_of, fits-is}
use Rattle.sync_record.specs.Records.{FileRecord}
use Rattle.folder_core.proofs.ListFilters.{join, less_is}
use Rattle.folder_core.proofs.ListTests.{In, in_get, inside}
use Rattle.folder_index.specs.Sequences.{AreSequenced}

module _ {K X : Type 0} (R : K → K → Ordering) where
  below_of : (k : K) (es : List (K × X)) → AllByRecursion (λ y. R k y ≡ Less) (keys_of es) → T (below_all R k es)
  below_of k [] all = tt
  below_of k (e ∷ es) all = join _ _ (less_is _ all.0) (below_of k es all.1)

  pub sorted_of : (es : List (K × X)) → IsStrictlySortedBy R (keys_of es) → T (is_sorted R es)
  sorted_of [] s = tt
  sorted_of (e ∷ es) s = join _ _ (below_of e.0 es (sorted_head R e.0 (keys_of es) s)) (sorted_of es (sorted_tail R e.0 (keys_of es) s))

  pub lookup_is : (q : K) (es : List (K × X)) → lookup (is_at (R q)) es ≡ find R q es
  lookup_is q [] = refl
  lookup_is q (e ∷ es) = ap (cond (is_eq (R q e.0)) (Some e.1)) (lookup_is q es)

  pub get_of : (es : List (K × X)) → IsStrictlySortedBy R (keys_of es) → (q : K) → lookup (is_at (R q)) es ≡ get (from_sorted {R = R} es) q
  get_of es s q = lookup_is q es ∙ sym (get-from_sorted R es q (sorted_of es s))

-- no entries
pub none_sorted : {K X : Type 0} (R : K → K → Ordering) → from_sorted {K = K} {X = X} {R = R} [] ≡ empty
none_sorted R = empty_of_len (from_sorted []) (len-entries (from_sorted []) ∙ ap length (entries-from_sorted R [] tt))

module _ {K X : Type 0} {R : K → K → Ordering} (o : IsTotalOrder R) (same : IsAntisymmetric R) (old new : List (K × X)) (s : IsStrictlySortedBy R (keys_of old)) (t : IsStrictlySortedBy R (keys_of new)) where
  equivalence : IsEquivalence (eq_by_cmp R)
  equivalence = eq_by_cmp_equiv o

  -- a value is put at a key
  pub inserted : (k : K) (v : X) → ((q : K) → lookup (is_at (R q)) new ≡ cond (is_at (R k) q) (Some v) (lookup (is_at (R q)) old)) → from_sorted {R = R} new ≡ insert (from_sorted old) k v
  inserted k v at = same_map o same (from_sorted new) (insert (from_sorted old) k v) (λ q.
      sym (get_of R new t q) ∙ at q
      ∙ (λ i. cond (equivalence.symm k q i) (Some v) (get_of R old s q i))
      ∙ sym (get-insert o (from_sorted old) k v q))

  -- the value at a key is taken away
  pub removed : (k : K) → ((q : K) → lookup (is_at (R q)) new ≡ cond (is_at (R k) q) None (lookup (is_at (R q)) old)) → from_sorted {R = R} new ≡ remove (from_sorted old) k
  removed k at = same_map o same (from_sorted new) (remove (from_sorted old) k) (λ q.
      sym (get_of R new t q) ∙ at q
      ∙ (λ i. cond (equivalence.symm k q i) None (get_of R old s q i))
      ∙ sym (get-remove o (from_sorted old) k q))

-- ---- records under their sequences

abbrev pub Sequences : Type 0
Sequences = List (ℕ × FileRecord)

exact : IsAntisymmetric nat_cmp
exact = nat_cmp-IsAntisymmetric

at_same : (k q : ℕ) → is_at (nat_cmp k) q ≡ true → k ≡ q
at_same k q t = exact k q ((Equal-is (nat_cmp k q)).0 t)

pub own_inserted : (old new : Sequences) (v : FileRecord) (k : ℕ) → AreSequenced old → IsStrictlySortedBy nat_cmp (keys_of new) → v.sequence ≡ k
    → ((q : ℕ) → lookup (is_at (nat_cmp q)) new ≡ cond (is_at (nat_cmp k) q) (Some v) (lookup (is_at (nat_cmp q)) old)) → AreSequenced new
own_inserted old new v k are sorted named at = record {
  rises = sorted;
  own = λ q r found.
      elim (is_at (nat_cmp k) q) as (λ b. is_at (nat_cmp k) q ≡ b → cond b (Some v) (lookup (is_at (nat_cmp q)) old) ≡ Some r → r.sequence ≡ q) [
        | true ↦ λ a s. ap (λ (x : FileRecord). x.sequence) (sym (inside v r s)) ∙ named ∙ at_same k q a
        | false ↦ λ a s. are.own q r s
      ] refl (sym (at q) ∙ found);
}

pub own_removed : (old new : Sequences) (k : ℕ) → AreSequenced old → IsStrictlySortedBy nat_cmp (keys_of new)
    → ((q : ℕ) → lookup (is_at (nat_cmp q)) new ≡ cond (is_at (nat_cmp k) q) None (lookup (is_at (nat_cmp q)) old)) → AreSequenced new
own_removed old new k are sorted at = record {
  rises = sorted;
  own = λ q r found.
      elim (is_at (nat_cmp k) q) as (λ b. cond b None (lookup (is_at (nat_cmp q)) old) ≡ Some r → r.sequence ≡ q) [
        | true ↦ λ s. absurd (none-some r s)
        | false ↦ λ s. are.own q r s
      ] (sym (at q) ∙ found);
}

pub sequence_inserted : (old new : Sequences) (k : ℕ) (v : FileRecord) → IsStrictlySortedBy nat_cmp (keys_of old) → IsStrictlySortedBy nat_cmp (keys_of new)
    → ((q : ℕ) → lookup (is_at (nat_cmp q)) new ≡ cond (is_at (nat_cmp k) q) (Some v) (lookup (is_at (nat_cmp q)) old)) → from_sorted {R = nat_cmp} new ≡ insert (from_sorted old) k v
sequence_inserted old new k v s t at = inserted nat_cmp_total exact old new s t k v at

pub sequence_removed : (old new : Sequences) (k : ℕ) → IsStrictlySortedBy nat_cmp (keys_of old) → IsStrictlySortedBy nat_cmp (keys_of new)
    → ((q : ℕ) → lookup (is_at (nat_cmp q)) new ≡ cond (is_at (nat_cmp k) q) None (lookup (is_at (nat_cmp q)) old)) → from_sorted {R = nat_cmp} new ≡ remove (from_sorted old) k
sequence_removed old new k s t at = removed nat_cmp_total exact old new s t k at

pub none_sequenced : from_sorted {K = ℕ} {X = FileRecord} {R = nat_cmp} [] ≡ empty
none_sequenced = none_sorted nat_cmp

abbrev pub record_of : ℕ × FileRecord → FileRecord
record_of e = e.1

below_is : (s q : ℕ) → (is_lt (nat_cmp s q) && true) ≡ nat_lt s q
below_is s q =
    elim (nat_lt s q) as (λ b. (is_lt (cond b Less (cond (s == q) Equal Greater)) && true) ≡ b) [
      | true ↦ refl
      | false ↦ elim (s == q) as (λ b. (is_lt (cond b Equal Greater) && true) ≡ false) [ true ↦ refl | false ↦ refl ]
    ]

pub later_are : (es : Sequences) → AreSequenced es → (s : ℕ) → map record_of (entries_between nat_cmp (Excluded s) Unbounded es) ≡ filter (λ r. nat_lt s r.sequence) (values (from_sorted {R = nat_cmp} es))
later_are es are s =
    later es (λ e i. are.own e.0 e.1 (get_of nat_cmp es are.rises e.0 ∙ in_get nat_cmp_total exact (from_sorted es) e (subst (In e) (sym (entries-from_sorted nat_cmp es (sorted_of nat_cmp es are.rises))) i)))
    ∙ ap (λ (l : Sequences). filter (λ r. nat_lt s r.sequence) (map record_of l)) (sym (entries-from_sorted nat_cmp es (sorted_of nat_cmp es are.rises)))
  where
    later : (es : Sequences) → ((e : ℕ × FileRecord) → In e es → e.1.sequence ≡ e.0) → map record_of (entries_between nat_cmp (Excluded s) Unbounded es) ≡ filter (λ r. nat_lt s r.sequence) (map record_of es)
    later [] own = refl
    later (e ∷ es) own =
        let rest : map record_of (entries_between nat_cmp (Excluded s) Unbounded es) ≡ filter (λ r. nat_lt s r.sequence) (map record_of es) = later es (λ f i. own f (inr i)) in
        let test : (is_lt (nat_cmp s e.0) && true) ≡ nat_lt s e.1.sequence = below_is s e.0 ∙ ap (nat_lt s) (sym (own e (inl refl))) in
        ap (λ b. map record_of (cond b (e ∷ entries_between nat_cmp (Excluded s) Unbounded es) (entries_between nat_cmp (Excluded s) Unbounded es))) test
        ∙ elim (nat_lt s e.1.sequence) as (λ b. map record_of (cond b (e ∷ entries_between nat_cmp (Excluded s) Unbounded es) (entries_between nat_cmp (Excluded s) Unbounded es)) ≡ cond b (e.1 ∷ filter (λ r. nat_lt s r.sequence) (map record_of es)) (filter (λ r. nat_lt s r.sequence) (map record_of es))) [
          | true ↦ ap (λ l. e.1 ∷ l) rest
          | false ↦ rest
        ]

-- the blocks of a page that fits, counted as far as 64 bits go
pub total_is : (limit : ℕ) (front : List FileRecord) (r : FileRecord) (sum blocks : ℕ) → fits_page limit (front ++ r ∷ []) ≡ true → length r.blocks < 2 ^ 64 → sum ≡ blocks_of front → blocks ≡ min (sum + length r.blocks) (2 ^ 64 - 1) → blocks ≡ blocks_of (front ++ r ∷ [])
total_is limit front r sum blocks fits short counted added = by front counted (fits-is limit (front ++ r ∷ []) fits).1 (sum_by_push (λ (r : FileRecord). length r.blocks) front r)
  where
    by : (front : List FileRecord) → sum ≡ blocks_of front → (blocks_of (front ++ r ∷ []) ≤ 1000000) ⊎ (length (front ++ r ∷ []) ≤ 1) → blocks_of (front ++ r ∷ []) ≡ blocks_of front + length r.blocks → blocks ≡ blocks_of (front ++ r ∷ [])
    by front counted (inl few) all = omega arith
    by [] counted (inr one) all = (let zero : sum ≡ 0 = counted in omega arith)
    by (x ∷ front) counted (inr one) all = absurd (let l = length-append (x ∷ front) (r ∷ []) in omega arith)

-- what the order of two numbers says
pub not_above : (a b : ℕ) → is_lt (nat_cmp a b) ≡ false → b ≤ a
not_above a b =
    elim (nat_lt a b) as (λ t. nat_lt a b ≡ t → is_lt (cond t Less (cond (a == b) Equal Greater)) ≡ false → b ≤ a) [
      | true ↦ λ t f. absurd (true≢false f)
      | false ↦ λ t f. ltb-false a b t
    ] refl

-- of no entries there is no value
pub none_in : (es : Sequences) (q : ℕ) (r : FileRecord) → lookup (is_at (nat_cmp q)) es ≡ Some r → 0 < length es
none_in [] q r e = absurd (none-some r e)
none_in (e ∷ es) q r f = omega arith
