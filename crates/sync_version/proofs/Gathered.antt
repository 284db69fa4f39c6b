-- The first of each id in a list that is sorted by id, and by falling values at each id; and a search by id.
use Rattle.std.proofs.Common.{◌≡◌, ◌<◌, ◌≤◌, ◌⊎◌, ℕ, Bool, true, false, List, [], ◌∷◌, refl, sym, ap, subst, ◌∙◌, zero, suc, arith, inl, inr, length, get_or, rules}
use Rattle.std.specs.Prelude.{cond, T, nat_eq, filter, Contains}
use Rattle.std.specs.List.{dedup, dedup_from, AllWithin, HoldsAt}
use Rattle.std.specs.List.Sorted.{IsPermutation, IsSortedBy, IsNonDecreasingBy}
use Rattle.std.specs.Ordering.{nat_cmp, eq_by_cmp, is_eq, is_lt, ordering_then, ordering_index}
use Rattle.std.specs.Cmp.{IsTotalOrder, nat_cmp_total, tied_itself}
use Rattle.std.specs.Cmp.Rules.{comparing}
use Rattle.std.specs.FinMap.{is_sorted, nat_cmp-IsAntisymmetric}
use Rattle.std.specs.declared.cmp.Ordering.{Ordering}
use Rattle.std.specs.declared.cmp.Ordering.TheVariants.{Less, Equal, Greater}
use Rattle.std.proofs.lemmas.Bool.{true≢false, and_from, false_from_ne_true, eqb-true, eqb-false, lt-ltb}
use Rattle.std.proofs.lemmas.Bool.Decides.{nat_tests}
use Rattle.std.proofs.lemmas.List.Sorted.{Contains-permutation, IsPermutation-sym, sorted_far, ranks_by}
use Rattle.sync_version.specs.Versions.{Vector, IsCanonical, counter, IsGatheredFrom}
use Rattle.sync_version.proofs.Lists.{In, in_all, in_contains, contains_in, in_filter, of_filter, tied, in_below, below_in, parts, is_true, all_of, le_or_lt, zero_or_above, less_of}
use Rattle.sync_version.proofs.Vectors.{positive, counter-cons, counter_of, zero_or_in, sorted_of}

abbrev pub same_id : ℕ × ℕ → ℕ × ℕ → Bool
same_id c d = nat_eq c.0 d.0

-- d may follow c: its id is no smaller, and at the same id its value no greater
pub record MayFollow (c d : ℕ × ℕ) : Type 0 where
  pub rises : c.0 ≤ d.0
  pub falls : c.0 ≡ d.0 → d.1 ≤ c.1

abbrev pub IsGrouped : List (ℕ × ℕ) → Type 0
IsGrouped [] = Unit {0}
IsGrouped (c ∷ cs) = ((d : ℕ × ℕ) → In d cs → MayFollow c d) × IsGrouped cs

pub record IsFirsts (cs : List (ℕ × ℕ)) (v : Vector) : Type 0 where
  pub sorted : is_sorted nat_cmp v ≡ true
  pub among : (d : ℕ × ℕ) → In d v → In d cs
  pub bound : (d : ℕ × ℕ) → In d cs → d.1 ≤ counter v d.0

at_itself : (c : ℕ × ℕ) (v : Vector) → counter (c ∷ v) c.0 ≡ c.1
at_itself c v = counter-cons c v c.0 ∙ ap (λ r. cond (is_eq r) c.1 (counter v c.0)) (tied_itself nat_cmp_total c.0)

at_other : (c : ℕ × ℕ) (v : Vector) (q : ℕ) → c.0 < q → counter (c ∷ v) q ≡ counter v q
at_other c v q h =
    counter-cons c v q ∙ ap (λ b. cond b c.1 (counter v q))
    (false_from_ne_true (eq_by_cmp nat_cmp q c.0) (λ t. let same : q ≡ c.0 = tied q c.0 t in omega arith))

firsts : (c : ℕ × ℕ) (cs : List (ℕ × ℕ)) → IsGrouped (c ∷ cs) → IsFirsts (c ∷ cs) (dedup_from same_id c cs)
firsts c [] g = record {
  sorted = refl;
  among = λ d i. i;
  bound = λ d i. only d i;
}
  where
    only : (d : ℕ × ℕ) → (d ≡ c) ⊎ ⊥ → d.1 ≤ counter (c ∷ []) d.0
    only d (inl e) = subst (λ (x : ℕ × ℕ). x.1 ≤ counter (c ∷ []) x.0) (sym e) (let is = at_itself c [] in omega arith)
    only d (inr i) = absurd i
firsts c (d ∷ ds) g =
    elim (nat_eq d.0 c.0) as (λ b. nat_eq d.0 c.0 ≡ b → IsFirsts (c ∷ d ∷ ds) (cond b (dedup_from same_id c ds) (c ∷ dedup_from same_id d ds))) [
      | true ↦ λ t. skip (eqb-true d.0 c.0 t) (firsts c ds ((λ e i. g.0 e (inr i)), g.1.1))
      | false ↦ λ t. keep (let other = eqb-false d.0 c.0 t in let le = (g.0 d (inl refl)).rises in omega arith) (firsts d ds g.1)
    ] refl
  where
    skip : d.0 ≡ c.0 → IsFirsts (c ∷ ds) (dedup_from same_id c ds) → IsFirsts (c ∷ d ∷ ds) (dedup_from same_id c ds)
    skip same f = record {
      sorted = f.sorted;
      among = λ e i. later e (f.among e i);
      bound = λ e i. bound e i;
    }
      where
        later : (e : ℕ × ℕ) → (e ≡ c) ⊎ In e ds → (e ≡ c) ⊎ ((e ≡ d) ⊎ In e ds)
        later e (inl s) = inl s
        later e (inr i) = inr (inr i)

        bound : (e : ℕ × ℕ) → (e ≡ c) ⊎ ((e ≡ d) ⊎ In e ds) → e.1 ≤ counter (dedup_from same_id c ds) e.0
        bound e (inl s) = f.bound e (inl s)
        bound e (inr (inl s)) =
            let first = f.bound c (inl refl) in
            let falls = (g.0 d (inl refl)).falls (sym same) in
            let at : counter (dedup_from same_id c ds) d.0 ≡ counter (dedup_from same_id c ds) c.0 = ap (counter (dedup_from same_id c ds)) same in
            let le : d.1 ≤ counter (dedup_from same_id c ds) d.0 = omega arith in
            subst (λ (x : ℕ × ℕ). x.1 ≤ counter (dedup_from same_id c ds) x.0) (sym s) le
        bound e (inr (inr i)) = f.bound e (inr i)

    keep : c.0 < d.0 → IsFirsts (d ∷ ds) (dedup_from same_id d ds) → IsFirsts (c ∷ d ∷ ds) (c ∷ dedup_from same_id d ds)
    keep lt f = record {
      sorted = and_from _ _ (is_true _ (in_below c.0 (dedup_from same_id d ds) (λ e i. less_of c.0 e.0 (above e (f.among e i))))) f.sorted;
      among = λ e i. among e i;
      bound = λ e i. bound e i;
    }
      where
        above : (e : ℕ × ℕ) → (e ≡ d) ⊎ In e ds → c.0 < e.0
        above e (inl s) = let same : e.0 ≡ d.0 = ap (λ (x : ℕ × ℕ). x.0) s in omega arith
        above e (inr i) = let le = (g.1.0 e i).rises in omega arith

        among : (e : ℕ × ℕ) → (e ≡ c) ⊎ In e (dedup_from same_id d ds) → (e ≡ c) ⊎ ((e ≡ d) ⊎ In e ds)
        among e (inl s) = inl s
        among e (inr i) = inr (f.among e i)

        bound : (e : ℕ × ℕ) → (e ≡ c) ⊎ ((e ≡ d) ⊎ In e ds) → e.1 ≤ counter (c ∷ dedup_from same_id d ds) e.0
        bound e (inl s) = subst (λ (x : ℕ × ℕ). x.1 ≤ counter (c ∷ dedup_from same_id d ds) x.0) (sym s) (let is = at_itself c (dedup_from same_id d ds) in omega arith)
        bound e (inr i) = let is = at_other c (dedup_from same_id d ds) e.0 (above e i) in let le = f.bound e i in omega arith

dedup_firsts : (cs : List (ℕ × ℕ)) → IsGrouped cs → IsFirsts cs (dedup same_id cs)
dedup_firsts [] g = record { sorted = refl; among = λ d i. i; bound = λ d i. absurd i }
dedup_firsts (c ∷ cs) g = firsts c cs g

-- ---- what a sort by id and by falling value leaves

abbrev pub first_by : ℕ × ℕ → ℕ × ℕ → Ordering
first_by c d = ordering_then (nat_cmp c.0 d.0) (nat_cmp d.1 c.1)

first_by_total : IsTotalOrder first_by
first_by_total = search (comparing, rules)

may_follow : (c d : ℕ × ℕ) → is_lt (first_by d c) ≡ false → MayFollow c d
may_follow c d e = record { rises = rises (le_or_lt c.0 d.0); falls = λ same. falls same (le_or_lt d.1 c.1) }
  where
    rises : (c.0 ≤ d.0) ⊎ (d.0 < c.0) → c.0 ≤ d.0
    rises (inl le) = le
    rises (inr lt) = absurd (true≢false (ap (λ r. is_lt (ordering_then r (nat_cmp c.1 d.1))) (sym (less_of d.0 c.0 lt)) ∙ e))

    falls : c.0 ≡ d.0 → (d.1 ≤ c.1) ⊎ (c.1 < d.1) → d.1 ≤ c.1
    falls same (inl le) = le
    falls same (inr lt) =
        let tie : nat_cmp d.0 c.0 ≡ Equal = ap (nat_cmp d.0) same ∙ tied_itself nat_cmp_total d.0 in
        absurd (true≢false ((λ i. is_lt (ordering_then (sym tie i) (sym (less_of c.1 d.1 lt) i))) ∙ e))

grouped_from : (cs : List (ℕ × ℕ)) → ((i j : ℕ) (d : ℕ × ℕ) → i < j → j < length cs → MayFollow (get_or cs i d) (get_or cs j d)) → IsGrouped cs
grouped_from [] each = tt
grouped_from (c ∷ cs) each = (
  (λ d i. let k = in_contains cs d i in subst (λ x. MayFollow c x) k.2 (each zero (suc k.0) d (omega arith) (omega arith))),
  grouped_from cs (λ i j d lt le. each (suc i) (suc j) d (omega arith) (omega arith)),
)

pub sorted_grouped : (cs : List (ℕ × ℕ)) → IsSortedBy (λ c d. is_lt (first_by c d)) cs → IsGrouped cs
sorted_grouped cs sorted =
    grouped_from cs (λ i j d lt le. may_follow (get_or cs i d) (get_or cs j d)
    (sorted_far (λ c d. is_lt (first_by c d)) (ranks_by first_by_total (λ c. c)) cs sorted i j d (omega arith) le))

pub gathered : (pairs sorted : List (ℕ × ℕ)) → IsPermutation (filter positive pairs) sorted → IsGrouped sorted → IsGatheredFrom pairs (dedup same_id sorted)
gathered pairs sorted moved grouped = record {
  canonical = and_from _ _ firsts.sorted (in_all positive (dedup same_id sorted) (λ d i. (of_filter positive pairs d (back d (firsts.among d i))).1));
  bound = all_of (λ pair. pair.1 ≤ counter (dedup same_id sorted) pair.0) pairs (λ d i. bound d i (zero_or_above d.1));
  attained = λ id. attained id (zero_or_in (dedup same_id sorted) id);
}
  where
    firsts : IsFirsts sorted (dedup same_id sorted)
    firsts = dedup_firsts sorted grouped

    back : (d : ℕ × ℕ) → In d sorted → In d (filter positive pairs)
    back d i = contains_in _ d (Contains-permutation _ _ d (IsPermutation-sym _ _ moved) (in_contains sorted d i))

    bound : (d : ℕ × ℕ) → In d pairs → (d.1 ≡ 0) ⊎ (0 < d.1) → d.1 ≤ counter (dedup same_id sorted) d.0
    bound d i (inl e) = omega arith
    bound d i (inr h) = firsts.bound d (contains_in sorted d (Contains-permutation _ _ d moved (in_contains _ d (in_filter positive pairs d i (lt-ltb 0 d.1 h)))))

    attained : (id : ℕ) → (counter (dedup same_id sorted) id ≡ 0) ⊎ In (id, counter (dedup same_id sorted) id) (dedup same_id sorted)
        → (counter (dedup same_id sorted) id ≡ 0) ⊎ Contains pairs (id, counter (dedup same_id sorted) id)
    attained id (inl e) = inl e
    attained id (inr i) = inr (in_contains pairs _ (of_filter positive pairs _ (back _ (firsts.among _ i))).0)

-- ---- a search by id

get_in : (cs : List (ℕ × ℕ)) (j : ℕ) (d : ℕ × ℕ) → j < length cs → In (get_or cs j d) cs
get_in [] j d lt = absurd (omega arith)
get_in (c ∷ cs) zero d lt = inl refl
get_in (c ∷ cs) (suc j) d lt = inr (get_in cs j d (omega arith))

below_lt : (x y : ℕ) → nat_cmp x y ≡ Less → x < y
below_lt x y e = grind (arith, nat_tests)

rises : (v : Vector) → T (is_sorted nat_cmp v) → (i j : ℕ) (d : ℕ × ℕ) → i ≤ j → j < length v → (get_or v i d).0 ≤ (get_or v j d).0
rises [] h i j d le lt = absurd (omega arith)
rises (c ∷ cs) h zero zero d le lt = omega arith
rises (c ∷ cs) h zero (suc j) d le lt = let less : c.0 < (get_or cs j d).0 = below_lt _ _ (below_in c.0 cs (parts _ _ h).0 (get_or cs j d) (get_in cs j d (omega arith))) in omega arith
rises (c ∷ cs) h (suc i) zero d le lt = absurd (omega arith)
rises (c ∷ cs) h (suc i) (suc j) d le lt = rises cs (parts _ _ h).1 i j d (omega arith) (omega arith)

index_le : (x y id : ℕ) → x ≤ y → ordering_index (nat_cmp x id) ≤ ordering_index (nat_cmp y id)
index_le x y id le = grind (arith, nat_tests)

pub searchable : (v : Vector) → IsCanonical v → (id : ℕ) → IsNonDecreasingBy (λ y. ordering_index (nat_cmp y.0 id)) v
searchable v p id i j d le lt = index_le _ _ id (rises v (sorted_of v p) i j d le lt)

pub found : (v : Vector) → IsCanonical v → (id at : ℕ) (c : ℕ × ℕ) → at < length v → c ≡ get_or v at c → HoldsAt (λ y. nat_cmp y.0 id ≡ Equal) v at → c.1 ≡ counter v id
found v p id at c lt e h =
    let same : c.0 ≡ id = nat_cmp-IsAntisymmetric c.0 id (subst (λ (x : ℕ × ℕ). nat_cmp x.0 id ≡ Equal) (sym e) (h c)) in
    sym (counter_of v p c (subst (λ x. In x v) (sym e) (get_in v at c lt))) ∙ ap (counter v) same

pub not_found : (v : Vector) (id at : ℕ) → AllWithin (λ y. nat_cmp y.0 id ≡ Less) v 0 at × AllWithin (λ y. nat_cmp y.0 id ≡ Greater) v at (length v) → 0 ≡ counter v id
not_found v id at h = by (zero_or_in v id)
  where
    untied : (r : Ordering) → nat_cmp id id ≡ r → r ≡ Equal
    untied r e = sym e ∙ tied_itself nat_cmp_total id

    there : (k : ℕ) → k < length v → get_or v k (id, counter v id) ≡ (id, counter v id) → (at ≤ k) ⊎ (k < at) → 0 ≡ counter v id
    there k lt e (inl le) = absurd (greater (untied Greater (subst (λ (x : ℕ × ℕ). nat_cmp x.0 id ≡ Greater) e (h.1 k (id, counter v id) le lt))))
      where
        greater : Greater ≡ Equal → ⊥
        greater e = cc
    there k lt e (inr le) = absurd (less (untied Less (subst (λ (x : ℕ × ℕ). nat_cmp x.0 id ≡ Less) e (h.0 k (id, counter v id) (omega arith) le))))
      where
        less : Less ≡ Equal → ⊥
        less e = cc

    by : (counter v id ≡ 0) ⊎ In (id, counter v id) v → 0 ≡ counter v id
    by (inl e) = sym e
    by (inr i) = let k = in_contains v (id, counter v id) i in there k.0 k.1 k.2 (le_or_lt at k.0)
