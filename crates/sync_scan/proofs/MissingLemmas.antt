-- Names that are listed in order, and a set of those that are not.
use Rattle.std.proofs.Common.{◌≡◌, ℕ, zero, suc, ◌<◌, ◌≤◌, List, [], ◌∷◌, ◌++◌, length, map, get_or, Bool, true, false, cond, append-nil, refl, sym, ap, subst, ◌∙◌, ◌⊎◌, inl, inr, ⊎_elim, arith, le_refl, is_ok}
use Rattle.std.specs.Prelude.{Contains, IsTrue, Ok, Err, Result, ◌↔◌}
use Rattle.std.specs.BTreeSet.{BTreeSet, Updates, contains}
use Rattle.std.specs.BTreeMap.{is_at}
use Rattle.std.specs.Cmp.Lexicographic.{slice_cmp, nat_list_cmp_total}
use Rattle.std.specs.List.{HoldsAt}
use Rattle.std.specs.List.Sorted.{IsBinarySearchResult, IsNonDecreasingBy, IsPartitionPoint, IsSearchInRange, IsStrictlySortedBy}
use Rattle.std.proofs.lemmas.Bool.{cases_lt}
use Rattle.std.proofs.lemmas.List.{get_or-map, length-append, length-map}
use Rattle.std.proofs.lemmas.List.Elements.{Contains-append_cases, Contains-append_left, Contains-append_right}
use Rattle.std.specs.Ordering.{is_eq, nat_cmp, ordering_index, ordering_reverse}
use Rattle.std.specs.declared.cmp.Ordering.{Ordering}
use Rattle.std.specs.declared.cmp.Ordering.TheVariants.{Less, Equal, Greater}
use Rattle.std.proofs.lemmas.Map.Keys.{Less-from_sorted}
use Rattle.std.proofs.lemmas.Map.Lookups.{exact_bytes}
use Rattle.std.proofs.lemmas.Map.Views.{btree_set_contains_iff}
use Rattle.sync_record.specs.Records.{FileRecord, Name, is_live}
use Rattle.folder_calls.specs.Shared.{CallerView, Sees, seeing}
use Rattle.sync_scan.specs.AllNames.{AddsMissing}

abbrev pub order : Name → Name → Ordering
order = slice_cmp nat_cmp

-- what a lesser name is to another one, a greater one is too or more
rank-le : (a b x : Name) → order a b ≡ Less → ordering_index (order a x) ≤ ordering_index (order b x)
rank-le a b x less = by (order b x) refl
  where
    by : (o : Ordering) → order b x ≡ o → ordering_index (order a x) ≤ ordering_index (order b x)
    by Less e =
        let first : order a x ≡ Less = nat_list_cmp_total.trans a b x less e in
        rw first (omega arith)
    by Equal e =
        let first : order a x ≡ Less = ap (order a) (sym (exact_bytes b x e)) ∙ less in
        rw first (omega arith)
    by Greater e = rw e (elim (order a x) as (λ o. ordering_index o ≤ 2) [ Less ↦ omega arith | Equal ↦ omega arith | Greater ↦ omega arith ])

itself : (x : Name) → order x x ≡ Equal
itself x = by (order x x) (nat_list_cmp_total.antisymm x x)
  where
    by : (o : Ordering) → o ≡ ordering_reverse o → o ≡ Equal
    by Less e = absurd (cc)
    by Equal e = refl
    by Greater e = absurd (cc)

module _ {X : Type 0} (f : X → Name) (x : Name) where
  -- names in order rank by another name in order
  sorted-ranks : (xs : List X) → IsStrictlySortedBy order (map f xs) → IsNonDecreasingBy (λ y. ordering_index (order (f y) x)) xs
  sorted-ranks xs sorted i j d le lt =
      let within : j < length (map f xs) = omega (arith, length-map xs f) in
      let at_i : get_or (map f xs) i (f d) ≡ f (get_or xs i d) = get_or-map f xs i d (f d) (omega arith) in
      let at_j : get_or (map f xs) j (f d) ≡ f (get_or xs j d) = get_or-map f xs j d (f d) lt in
      ⊎_elim
      (λ less. rank-le (f (get_or xs i d)) (f (get_or xs j d)) x
      (subst (λ a. order a (f (get_or xs j d)) ≡ Less) at_i (subst (λ b. order (get_or (map f xs) i (f d)) b ≡ Less) at_j (Less-from_sorted order (map f xs) i j (f d) sorted less within))))
      (λ more. let same : i ≡ j = omega arith in
      subst (λ k. ordering_index (order (f (get_or xs i d)) x) ≤ ordering_index (order (f (get_or xs k d)) x)) same (le_refl _))
      (cases_lt i j)

  -- a name that is searched for is found where it is among them
  pub listed-iff : (xs : List X) (r : Result ℕ ℕ) → IsSearchInRange r (length xs) → IsBinarySearchResult (λ y. order (f y) x) xs r → IsStrictlySortedBy order (map f xs)
      → (is_ok r ≡ true) ↔ Contains (map f xs) x
  listed-iff xs (Ok i) bound found sorted = (λ _. there xs bound found, λ _. refl)
    where
      there : (xs : List X) → i < length xs → HoldsAt (λ y. order (f y) x ≡ Equal) xs i → Contains (map f xs) x
      there [] lt found = absurd (omega arith)
      there (y ∷ ys) lt found = (i, omega (arith, length-map (y ∷ ys) f), get_or-map f (y ∷ ys) i y x lt ∙ exact_bytes _ x (found y))
  listed-iff xs (Err i) bound found sorted = (λ e. absurd (cc), λ there. absurd (by xs there (found (sorted-ranks xs sorted))))
    where
      by : (xs : List X) → Contains (map f xs) x → IsPartitionPoint (λ y. order (f y) x ≡ Less) (λ y. order (f y) x ≡ Greater) xs i → ⊥
      by [] (k, lt, e) parts = absurd (omega arith)
      by (y ∷ ys) (k, lt, e) parts =
          let within : k < length (y ∷ ys) = omega (arith, length-map (y ∷ ys) f) in
          let here : f (get_or (y ∷ ys) k y) ≡ x = sym (get_or-map f (y ∷ ys) k y x within) ∙ e in
          let equal : order (f (get_or (y ∷ ys) k y)) x ≡ Equal = ap (λ a. order a x) here ∙ itself x in
          ⊎_elim (λ below. let less = parts.0 k y (omega arith) below in absurd (cc)) (λ above. let more = parts.1 k y above within in absurd (cc)) (cases_lt k i)

-- ---- a name that is added

is_eq-Equal : (o : Ordering) → is_eq o ≡ true → o ≡ Equal
is_eq-Equal Less e = absurd (cc)
is_eq-Equal Equal e = refl
is_eq-Equal Greater e = absurd (cc)

only-one : (r x : FileRecord) → Contains (r ∷ []) x → r ≡ x
only-one r x (zero, lt, e) = e
only-one r x (suc k, lt, e) = absurd (omega arith)

-- nothing was to be added
pub adds-none : (listed : List Name) (r : FileRecord) (names : List Name) → (IsTrue (is_live r) → Contains listed r.name) → AddsMissing listed (r ∷ []) names names
adds-none listed r names why = record {
  kept = λ n i. i;
  added = λ x i live. by x i live;
  only = λ n i. inl i;
}
  where
    by : (x : FileRecord) → Contains (r ∷ []) x → IsTrue (is_live x) → Contains listed x.name ⊎ Contains names x.name
    by x i live = let same = only-one r x i in inl (subst (λ (y : FileRecord). Contains listed y.name) same (why (subst (λ (y : FileRecord). IsTrue (is_live y)) (sym same) live)))

-- the record's name was added
pub adds-one : (listed : List Name) (r : FileRecord) (s n : BTreeSet Name) → Updates order s n r.name true → IsTrue (is_live r) → (Contains listed r.name → ⊥)
    → AddsMissing listed (r ∷ []) s.keys n.keys
adds-one listed r s n updates live apart = record {
  kept = λ k i. (iff n k).0 (updates.0 k ∙ by-kept k (is_at (order r.name) k) ((iff s k).1 i));
  added = λ x i _. inr (subst (λ (y : FileRecord). Contains n.keys y.name) (only-one r x i) ((iff n r.name).0 updates.1));
  only = λ k i. by-only k (is_at (order r.name) k) refl (sym (updates.0 k) ∙ (iff n k).1 i);
}
  where
    iff : (t : BTreeSet Name) (k : Name) → IsTrue (contains order t k) ↔ Contains t.keys k
    iff t k = btree_set_contains_iff nat_list_cmp_total exact_bytes t k

    by-kept : (k : Name) (b : Bool) → contains order s k ≡ true → cond b true (contains order s k) ≡ true
    by-kept k true e = refl
    by-kept k false e = e

    by-only : (k : Name) (b : Bool) → is_at (order r.name) k ≡ b → cond (is_at (order r.name) k) true (contains order s k) ≡ true
        → Contains s.keys k ⊎ ((x : FileRecord) × Contains (r ∷ []) x × (x.name ≡ k) × IsTrue (is_live x) × (Contains listed k → ⊥))
    by-only k true at e =
        let same : r.name ≡ k = exact_bytes r.name k (is_eq-Equal (order r.name k) at) in
        inr (r, (0, omega arith, refl), same, live, subst (λ m. Contains listed m → ⊥) same apart)
    by-only k false at e = inl ((iff s k).0 (ap (λ b. cond b true (contains order s k)) (sym at) ∙ e))

-- names were added of some records, and then of others
pub adds-on : (listed : List Name) (xs ys : List FileRecord) (a b c : List Name) → AddsMissing listed xs a b → AddsMissing listed ys b c
    → AddsMissing listed (xs ++ ys) a c
adds-on listed xs ys a b c first second = record {
  kept = λ n i. second.kept n (first.kept n i);
  added = λ r i live. by-added r live (Contains-append_cases xs ys r i);
  only = λ n i. later n (second.only n i);
}
  where
    by : (r : FileRecord) → Contains listed r.name ⊎ Contains b r.name → Contains listed r.name ⊎ Contains c r.name
    by r (inl l) = inl l
    by r (inr i) = inr (second.kept r.name i)

    by-added : (r : FileRecord) → IsTrue (is_live r) → Contains xs r ⊎ Contains ys r → Contains listed r.name ⊎ Contains c r.name
    by-added r live (inl f) = by r (first.added r f live)
    by-added r live (inr s) = second.added r s live

    by-only : (n : Name) → Contains a n ⊎ ((r : FileRecord) × Contains xs r × (r.name ≡ n) × IsTrue (is_live r) × (Contains listed n → ⊥))
        → Contains a n ⊎ ((r : FileRecord) × Contains (xs ++ ys) r × (r.name ≡ n) × IsTrue (is_live r) × (Contains listed n → ⊥))
    by-only n (inl i) = inl i
    by-only n (inr s) = inr (s.0, Contains-append_left xs ys s.0 s.1, s.2, s.3, s.4)

    later : (n : Name) → Contains b n ⊎ ((r : FileRecord) × Contains ys r × (r.name ≡ n) × IsTrue (is_live r) × (Contains listed n → ⊥))
        → Contains a n ⊎ ((r : FileRecord) × Contains (xs ++ ys) r × (r.name ≡ n) × IsTrue (is_live r) × (Contains listed n → ⊥))
    later n (inl f) = by-only n (first.only n f)
    later n (inr s) = inr (s.0, Contains-append_right xs ys s.0 s.1, s.2, s.3, s.4)

-- nothing was added of no records
pub adds-nothing : (listed names : List Name) → AddsMissing listed [] names names
adds-nothing listed names = record { kept = λ n i. i; added = λ r i live. absurd (let lt = i.1 in omega arith); only = λ n i. inl i }

-- a caller that sees another on, and the other way, has seen as much
pub sees-both : (a b : CallerView) → Sees a b → Sees b a → b ≡ a
sees-both a b first second =
    let one = ap length first.longer.1 in
    let two = ap length second.longer.1 in
    let three = length-append a.seen first.longer.0 in
    let four = length-append b.seen second.longer.0 in
    let none : first.longer.0 ≡ [] = empty-of first.longer.0 (omega arith) in
    let same : b.seen ≡ a.seen = sym first.longer.1 ∙ ap (λ z. a.seen ++ z) none ∙ append-nil a.seen in
    first.same ∙ ap (seeing a) same
  where
    empty-of : {X : Type 0} (xs : List X) → length xs ≡ 0 → xs ≡ []
    empty-of [] e = refl
    empty-of (x ∷ xs) e = absurd (cc)
