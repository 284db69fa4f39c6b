-- The laws, as the functions of src/laws.rt state them, for the proofs of other crates.
use Rattle.std.proofs.Common.{◌≡◌, ◌+◌, ◌<◌, ◌≤◌, ◌↔◌, ◌⊎◌, ℕ, max, Bool, true, false, List, [], ◌∷◌, refl, sym, ap, ◌∙◌, arith, inl, inr}
use Rattle.std.specs.Prelude.{not, cond, ◌&&◌, nat_eq, nat_le, filter, Contains, IsTrue}
use Rattle.std.specs.List.{list_all}
use Rattle.std.specs.Ordering.{nat_cmp, eq_by_cmp, is_eq}
use Rattle.std.specs.Cmp.{nat_cmp_total, tied_itself}
use Rattle.std.proofs.lemmas.Bool.{true≢false, and_parts, and_from, and_cases, not-true, false_from_ne_true, leb-false, lt-ltb, eqb-true, cases_eq}
use Rattle.std.proofs.lemmas.List.Elements.{All-contains}
use Rattle.sync_version.specs.declared.relation.Relation.{Relation}
use Rattle.sync_version.specs.declared.relation.Relation.TheVariants as told
use Rattle.sync_version.specs.Versions.{Vector, IsCanonical, counter, Covers, Exceeds, Dominates, IsRelation, IsMergeOf, IsRaiseOf, IsGatheredFrom}
use Rattle.sync_version.specs.Computed.{same_version, same_version_equiv, covers, dominates, relation, relation_by, turned, merge, raised, from_counters}
use Rattle.sync_version.proofs.Lists.{In, in_all, in_contains, in_filter, of_filter, tied, all_of, zero_or_above}
use Rattle.sync_version.proofs.Vectors.{covers_at, at_covers, counter-put, counter-merge, canonical-put, canonical-merge, positive, same_vector, counter_of, zero_or_in}
use Rattle.sync_version.proofs.Pairs.{merge_reaches, merge_comes_from}

-- ---- covering and domination

pub covers_tells : (a b : Vector) → IsTrue (covers a b) ↔ Covers a b
covers_tells a b = (covers_at a b, at_covers a b)

here_or : {A : Type 0} (p : A → Bool) (y : A) {there : Type 0} → (there → (x : A) × (p x ≡ false)) → (p y ≡ false) ⊎ there → (x : A) × (p x ≡ false)
here_or p y rest (inl here) = (y, here)
here_or p y rest (inr there) = rest there

not_all : {A : Type 0} (p : A → Bool) (xs : List A) → list_all p xs ≡ false → (x : A) × (p x ≡ false)
not_all p [] e = absurd (true≢false e)
not_all p (y ∷ ys) e = here_or p y (not_all p ys) (and_cases (p y) (list_all p ys) e)

exceeds_of : (a b : Vector) → covers b a ≡ false → Exceeds a b
exceeds_of a b e =
    let some = not_all (λ (c : ℕ × ℕ). nat_le (counter a c.0) (counter b c.0)) a e in
    (some.0.0, leb-false _ _ some.1)

not_covered : (a b : Vector) → Exceeds a b → covers b a ≡ false
not_covered a b x = false_from_ne_true _ (λ e. let le = covers_at b a e x.0 in let gt = x.1 in omega arith)

pub dominates_tells : (a b : Vector) → IsTrue (dominates a b) ↔ Dominates a b
dominates_tells a b = (
  (λ e. let t = and_parts _ _ e in record { covers = covers_at a b t.0; exceeds = exceeds_of a b (not-true _ t.1) }),
  λ d. and_from _ _ (at_covers a b d.covers) (ap not (not_covered a b d.exceeds)),
)

covers_itself : (v : Vector) → covers v v ≡ true
covers_itself v = at_covers v v (λ id. omega arith)

pub dominates_itself : (v : Vector) → dominates v v ≡ false
dominates_itself v = ap (λ b. b && not b) (covers_itself v)

pub dominates_trans : (a b c : Vector) → IsTrue (dominates a b) → IsTrue (dominates b c) → IsTrue (dominates a c)
dominates_trans a b c p q =
    let s = (dominates_tells a b).0 p in
    let t = (dominates_tells b c).0 q in
    (dominates_tells a c).1 (record {
      covers = λ id. let x = s.covers id in let y = t.covers id in omega arith;
      exceeds = (s.exceeds.0, (let x = s.exceeds.1 in let y = t.covers s.exceeds.0 in omega arith));
    })

-- ---- the four relations

covers_both : (a b : Vector) → IsCanonical a → IsCanonical b → covers a b ≡ true → covers b a ≡ true → a ≡ b
covers_both a b p q c d = same_vector a b p q (λ id. let x = covers_at a b c id in let y = covers_at b a d id in omega arith)

pub relation_holds : (a b : Vector) → IsCanonical a → IsCanonical b → IsRelation (relation a b) a b
relation_holds a b p q = by (covers a b) (covers b a) refl refl
  where
    by : (x y : Bool) → covers a b ≡ x → covers b a ≡ y → IsRelation (relation_by x y) a b
    by true true e f = covers_both a b p q e f
    by true false e f = record { covers = covers_at a b e; exceeds = exceeds_of a b f }
    by false true e f = record { covers = covers_at b a f; exceeds = exceeds_of b a e }
    by false false e f = record { first = exceeds_of a b f; second = exceeds_of b a e }

pub relation_only : (a b : Vector) (r : Relation) → IsRelation r a b → r ≡ relation a b
relation_only a b told.Equal e = (λ i. relation_by (sym (covers_itself a) i) (sym (covers_itself a) i)) ∙ ap (relation a) e
relation_only a b told.Dominates d = λ i. relation_by (sym (at_covers a b d.covers) i) (sym (not_covered a b d.exceeds) i)
relation_only a b told.Dominated d = λ i. relation_by (sym (not_covered b a d.exceeds) i) (sym (at_covers b a d.covers) i)
relation_only a b told.Concurrent d = λ i. relation_by (sym (not_covered b a d.second) i) (sym (not_covered a b d.first) i)

pub relation_turned : (a b : Vector) → relation b a ≡ turned (relation a b)
relation_turned a b = by (covers a b) (covers b a)
  where
    by : (x y : Bool) → relation_by y x ≡ turned (relation_by x y)
    by true true = refl
    by true false = refl
    by false true = refl
    by false false = refl

-- ---- merge

pub merge_is : (a b : Vector) → IsCanonical a → IsCanonical b → IsMergeOf a b (merge a b)
merge_is a b p q = record {
  canonical = canonical-merge a b p (and_parts _ _ q).1;
  counters = λ id. counter-merge a b id (and_parts _ _ q).0;
}

pub merge_only : (a b v : Vector) → IsCanonical a → IsCanonical b → IsMergeOf a b v → v ≡ merge a b
merge_only a b v p q m =
    let is = merge_is a b p q in
    same_vector v (merge a b) m.canonical is.canonical (λ id. m.counters id ∙ sym (is.counters id))

pub merge_left : (a b : Vector) → IsCanonical a → IsCanonical b → IsTrue (covers (merge a b) a)
merge_left a b p q = at_covers (merge a b) a (λ id. let e = (merge_is a b p q).counters id in omega arith)

pub merge_right : (a b : Vector) → IsCanonical a → IsCanonical b → IsTrue (covers (merge a b) b)
merge_right a b p q = at_covers (merge a b) b (λ id. let e = (merge_is a b p q).counters id in omega arith)

pub merge_least : (a b v : Vector) → IsCanonical a → IsCanonical b → IsTrue (covers v a) → IsTrue (covers v b) → IsTrue (covers v (merge a b))
merge_least a b v p q s t = at_covers v (merge a b) (λ id.
    let e = (merge_is a b p q).counters id in
    let x = covers_at v a s id in
    let y = covers_at v b t id in
    omega arith)

pub merge_comm : (a b : Vector) → IsCanonical a → IsCanonical b → merge a b ≡ merge b a
merge_comm a b p q = merge_only b a (merge a b) q p (record {
  canonical = (merge_is a b p q).canonical;
  counters = λ id. let e = (merge_is a b p q).counters id in omega arith;
})

pub merge_assoc : (a b c : Vector) → IsCanonical a → IsCanonical b → IsCanonical c → merge (merge a b) c ≡ merge a (merge b c)
merge_assoc a b c p q r =
    let ab = merge_is a b p q in
    let bc = merge_is b c q r in
    let left = merge_is (merge a b) c ab.canonical r in
    merge_only a (merge b c) (merge (merge a b) c) p bc.canonical (record {
      canonical = left.canonical;
      counters = λ id.
          let e = left.counters id in
          let f = ab.counters id in
          let g = bc.counters id in
          omega arith;
    })

pub merge_itself : (v : Vector) → IsCanonical v → merge v v ≡ v
merge_itself v p = sym (merge_only v v v p p (record { canonical = p; counters = λ id. omega arith }))

-- ---- raise

pub raised_is : (v : Vector) (id moment : ℕ) → IsCanonical v → IsRaiseOf v id moment (raised v id moment)
raised_is v id moment p =
    let next = max (counter v id + 1) moment in
    record {
      canonical = canonical-put id next v (lt-ltb 0 next (omega arith)) p;
      here = counter-put v id next id ∙ ap (λ r. cond (is_eq r) next (counter v id)) (tied_itself nat_cmp_total id);
      elsewhere = λ q other. counter-put v id next q ∙ ap (λ b. cond b next (counter v q)) (false_from_ne_true (eq_by_cmp nat_cmp q id) (λ t. other (tied q id t)));
    }

pub raised_only : (v : Vector) (id moment : ℕ) (w : Vector) → IsCanonical v → IsRaiseOf v id moment w → w ≡ raised v id moment
raised_only v id moment w p r =
    let is = raised_is v id moment p in
    same_vector w (raised v id moment) r.canonical is.canonical (λ q. at q (cases_eq q id))
  where
    at : (q : ℕ) → (q ≡ id) ⊎ (q ≡ id → ⊥) → counter w q ≡ counter (raised v id moment) q
    at q (inl e) = ap (counter w) e ∙ r.here ∙ sym ((raised_is v id moment p).here) ∙ ap (counter (raised v id moment)) (sym e)
    at q (inr other) = r.elsewhere q other ∙ sym ((raised_is v id moment p).elsewhere q other)

pub raised_dominates : (v : Vector) (id moment : ℕ) → IsTrue (dominates (raised v id moment) v)
raised_dominates v id moment = (dominates_tells (raised v id moment) v).1 (record {
  covers = λ q. at (eq_by_cmp nat_cmp q id) q refl;
  exceeds = (id, (let e = here in omega arith));
})
  where
    next : ℕ
    next = max (counter v id + 1) moment

    here : counter (raised v id moment) id ≡ max (counter v id + 1) moment
    here = counter-put v id (max (counter v id + 1) moment) id ∙ ap (λ r. cond (is_eq r) (max (counter v id + 1) moment) (counter v id)) (tied_itself nat_cmp_total id)

    at : (b : Bool) (q : ℕ) → eq_by_cmp nat_cmp q id ≡ b → counter v q ≤ counter (raised v id moment) q
    at true q e =
        let same : counter v q ≡ counter v id = ap (counter v) (tied q id e) in
        let is : counter (raised v id moment) q ≡ max (counter v id + 1) moment = ap (counter (raised v id moment)) (tied q id e) ∙ here in
        omega arith
    at false q e =
        let is : counter (raised v id moment) q ≡ counter v q = counter-put v id (max (counter v id + 1) moment) q ∙ ap (λ b. cond b (max (counter v id + 1) moment) (counter v q)) e in
        omega arith

-- ---- the same counters

pub same_counters : (a b : Vector) → IsCanonical a → IsCanonical b → ((id : ℕ) → counter a id ≡ counter b id) → a ≡ b
same_counters = same_vector

same : (a b : Vector) → same_version a b ≡ true → a ≡ b
same [] [] e = refl
same [] (d ∷ ds) e = absurd (true≢false (sym e))
same (c ∷ cs) [] e = absurd (true≢false (sym e))
same (c ∷ cs) (d ∷ ds) e =
    let t = and_parts (nat_eq c.0 d.0 && nat_eq c.1 d.1) (same_version cs ds) e in
    let u = and_parts (nat_eq c.0 d.0) (nat_eq c.1 d.1) t.0 in
    λ i. (eqb-true c.0 d.0 u.0 i, eqb-true c.1 d.1 u.1 i) ∷ same cs ds t.1 i

pub same_version_tells : (a b : Vector) → IsTrue (same_version a b) ↔ (a ≡ b)
same_version_tells a b = (same a b, λ e. ap (same_version a) (sym e) ∙ same_version_equiv.refl a)

-- ---- counters in any order

pub from_counters_is : (pairs : List (ℕ × ℕ)) → IsGatheredFrom pairs (from_counters pairs)
from_counters_is pairs = record {
  canonical = canonical-merge [] kept refl (all_positive pairs);
  bound = all_of (λ pair. pair.1 ≤ counter (from_counters pairs) pair.0) pairs (λ c i. bound c i (zero_or_above c.1));
  attained = λ id. attained id (merge_comes_from [] kept id);
}
  where
    kept : List (ℕ × ℕ)
    kept = filter positive pairs

    all_positive : (cs : List (ℕ × ℕ)) → list_all positive (filter positive cs) ≡ true
    all_positive cs = in_all positive (filter positive cs) (λ c i. (of_filter positive cs c i).1)

    bound : (c : ℕ × ℕ) → In c pairs → (c.1 ≡ 0) ⊎ (0 < c.1) → c.1 ≤ counter (merge [] (filter positive pairs)) c.0
    bound c i (inl e) = omega arith
    bound c i (inr h) = merge_reaches [] (filter positive pairs) c (in_filter positive pairs c i (lt-ltb 0 c.1 h))

    attained : (id : ℕ) → (counter (merge [] (filter positive pairs)) id ≡ 0) ⊎ In (id, counter (merge [] (filter positive pairs)) id) (filter positive pairs)
        → (counter (merge [] (filter positive pairs)) id ≡ 0) ⊎ Contains pairs (id, counter (merge [] (filter positive pairs)) id)
    attained id (inl e) = inl e
    attained id (inr i) = inr (in_contains pairs _ (of_filter positive pairs _ i).0)

gathered_le : (pairs : List (ℕ × ℕ)) (v w : Vector) → IsGatheredFrom pairs v → IsGatheredFrom pairs w → (id : ℕ) → counter v id ≤ counter w id
gathered_le pairs v w g h id = by (g.attained id)
  where
    by : (counter v id ≡ 0) ⊎ Contains pairs (id, counter v id) → counter v id ≤ counter w id
    by (inl e) = omega arith
    by (inr c) = All-contains (λ pair. pair.1 ≤ counter w pair.0) pairs (id, counter v id) h.bound c

gathered_once : (pairs : List (ℕ × ℕ)) (v w : Vector) → IsGatheredFrom pairs v → IsGatheredFrom pairs w → v ≡ w
gathered_once pairs v w g h = same_vector v w g.canonical h.canonical (λ id.
    let x = gathered_le pairs v w g h id in
    let y = gathered_le pairs w v h g id in
    omega arith)

pub gathered_only : (pairs : List (ℕ × ℕ)) (v : Vector) → IsGatheredFrom pairs v → v ≡ from_counters pairs
gathered_only pairs v g = gathered_once pairs v (from_counters pairs) g (from_counters_is pairs)

pub from_canonical : (v : Vector) → IsCanonical v → from_counters v ≡ v
from_canonical v p = sym (gathered_only v v (record {
  canonical = p;
  bound = all_of (λ pair. pair.1 ≤ counter v pair.0) v (λ c i. let e = counter_of v p c i in omega arith);
  attained = λ id. attained id (zero_or_in v id);
}))
  where
    attained : (id : ℕ) → (counter v id ≡ 0) ⊎ In (id, counter v id) v → (counter v id ≡ 0) ⊎ Contains v (id, counter v id)
    attained id (inl e) = inl e
    attained id (inr i) = inr (in_contains v _ i)
