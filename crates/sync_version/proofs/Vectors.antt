-- Version vectors at each id.
use Rattle.std.proofs.Common.{◌<◌, ◌≡◌, ℕ, ◌≤◌, Bool, true, false, [], ◌∷◌, refl, sym, ap, subst, ◌∙◌, arith, inl, inr}
use Rattle.std.specs.Prelude.{cond, max, T, Option, Some, None, unwrap_or, nat_le, nat_lt, ◌⊎◌}
use Rattle.std.specs.Bool.{passes}
use Rattle.std.specs.Ordering.{nat_cmp, eq_by_cmp, is_eq}
use Rattle.std.specs.Cmp.{nat_cmp_total, tied_itself}
use Rattle.std.specs.FinMap.{find, put, is_sorted, nat_cmp-IsAntisymmetric}
use Rattle.std.specs.FinMap.Entries.{find-put, below_all, by_order, is_sorted-put, same_entries}
use Rattle.std.specs.List.{list_all}
use Rattle.std.proofs.lemmas.Bool.{true≢false, and_parts, and_from, ltb-true, lt-ltb, leb-true, le-leb}
use Rattle.std.specs.declared.cmp.Ordering.TheVariants.{Less, Equal, Greater}
use Rattle.sync_version.specs.Versions.{Vector, counter, IsCanonical, Covers}
use Rattle.sync_version.specs.Computed.{covers, with_counter, merge}
use Rattle.sync_version.proofs.Lists.{is_true, In, all_in, in_all, find_in, below_in, in_find, tied}

-- ---- the counters of a covered, a changed, a merged vector

pub covers_at : (a b : Vector) → covers a b ≡ true → Covers a b
covers_at a b c id =
    elim (find nat_cmp id b) as (λ f. find nat_cmp id b ≡ f → unwrap_or f 0 ≤ counter a id) [
      | None ↦ λ e. omega arith
      | Some v ↦ λ e.
          let in_b : In (id, v) b = find_in b id v e in
          let le : counter b id ≤ counter a id = leb-true _ _ (all_in (λ (c : ℕ × ℕ). nat_le (counter b c.0) (counter a c.0)) b c (id, v) in_b) in
          subst (λ f. unwrap_or f 0 ≤ counter a id) e le
    ] refl

pub at_covers : (a b : Vector) → Covers a b → covers a b ≡ true
at_covers a b each = in_all (λ (c : ℕ × ℕ). nat_le (counter b c.0) (counter a c.0)) b (λ c i. le-leb _ _ (each c.0))

at_cond : (b : Bool) (k : ℕ) (f : Option ℕ) → unwrap_or (cond b (Some k) f) 0 ≡ cond b k (unwrap_or f 0)
at_cond true k f = refl
at_cond false k f = refl

-- a counter that is put changes no other
pub counter-put : (v : Vector) (id k q : ℕ) → counter (put nat_cmp id k v) q ≡ cond (eq_by_cmp nat_cmp q id) k (counter v q)
counter-put v id k q = ap (λ f. unwrap_or f 0) (find-put nat_cmp nat_cmp_total q id k v) ∙ at_cond (eq_by_cmp nat_cmp q id) k (find nat_cmp q v)

pub counter-cons : (c : ℕ × ℕ) (v : Vector) (q : ℕ) → counter (c ∷ v) q ≡ cond (eq_by_cmp nat_cmp q c.0) c.1 (counter v q)
counter-cons c v q = at_cond (eq_by_cmp nat_cmp q c.0) c.1 (find nat_cmp q v)

-- an id below all those of a vector has no counter there
pub missing : (id : ℕ) (v : Vector) → T (below_all nat_cmp id v) → counter v id ≡ 0
missing id v b =
    elim (find nat_cmp id v) as (λ f. find nat_cmp id v ≡ f → unwrap_or f 0 ≡ 0) [
      | None ↦ λ e. refl
      | Some n ↦ λ e.
          let less = below_in id v b (id, n) (find_in v id n e) in
          absurd (true≢false (ap is_eq (sym (tied_itself nat_cmp_total id) ∙ less)))
    ] refl

-- the greatest of each counter
pub counter-merge : (a b : Vector) (id : ℕ) → is_sorted nat_cmp b ≡ true → counter (merge a b) id ≡ max (counter a id) (counter b id)
counter-merge a [] id s = omega arith
counter-merge a (c ∷ cs) id s =
    let sorted = and_parts _ _ s in
    counter-merge (with_counter a c) cs id sorted.1
    ∙ ap (λ n. max n (counter cs id)) (counter-put a c.0 (max (counter a c.0) c.1) id)
    ∙ elim (eq_by_cmp nat_cmp id c.0) as (λ b. eq_by_cmp nat_cmp id c.0 ≡ b → max (cond b (max (counter a c.0) c.1) (counter a id)) (counter cs id) ≡ max (counter a id) (unwrap_or (cond b (Some c.1) (find nat_cmp id cs)) 0)) [
      | true ↦ λ t.
          let here : id ≡ c.0 = tied id c.0 t in
          let none : counter cs c.0 ≡ 0 = missing c.0 cs (passes _ sorted.0) in
          subst (λ i. max (max (counter a c.0) c.1) (counter cs i) ≡ max (counter a i) c.1) (sym here) (at_here (counter a c.0) c.1 (counter cs c.0) none)
      | false ↦ λ t. refl
    ] refl
  where
    at_here : (x y z : ℕ) → z ≡ 0 → max (max x y) z ≡ max x y
    at_here x y z e = omega arith

-- ---- canonical vectors

abbrev pub positive : ℕ × ℕ → Bool
positive c = nat_lt 0 c.1

pub sorted_of : (v : Vector) → IsCanonical v → T (is_sorted nat_cmp v)
sorted_of v e = passes _ (and_parts _ _ e).0

pub positive-put : (id k : ℕ) (v : Vector) → nat_lt 0 k ≡ true → list_all positive v ≡ true → list_all positive (put nat_cmp id k v) ≡ true
positive-put id k [] p e = and_from _ _ p refl
positive-put id k (c ∷ cs) p e =
    elim (nat_cmp id c.0) as (λ r. list_all positive (by_order r ((id, k) ∷ c ∷ cs) ((c.0, k) ∷ cs) (c ∷ put nat_cmp id k cs)) ≡ true) [
      | Less ↦ and_from _ _ p e
      | Equal ↦ and_from _ _ p (and_parts _ _ e).1
      | Greater ↦ and_from _ _ (and_parts _ _ e).0 (positive-put id k cs p (and_parts _ _ e).1)
    ]

pub canonical-put : (id k : ℕ) (v : Vector) → nat_lt 0 k ≡ true → IsCanonical v → IsCanonical (put nat_cmp id k v)
canonical-put id k v p e =
    and_from _ _ (is_true _ (is_sorted-put nat_cmp nat_cmp_total id k v (sorted_of v e))) (positive-put id k v p (and_parts _ _ e).1)

pub canonical-merge : (a b : Vector) → IsCanonical a → list_all positive b ≡ true → IsCanonical (merge a b)
canonical-merge a [] e p = e
canonical-merge a (c ∷ cs) e p =
    let t = and_parts _ _ p in
    let more : 0 < c.1 = ltb-true 0 c.1 t.0 in
    canonical-merge (with_counter a c) cs (canonical-put c.0 (max (counter a c.0) c.1) a (lt-ltb 0 (max (counter a c.0) c.1) (omega arith)) e) t.1

-- ---- vectors with the same counters

-- what is found in a vector isn't 0
pub found_positive : (v : Vector) (id k : ℕ) → IsCanonical v → find nat_cmp id v ≡ Some k → 0 < k
found_positive v id k p e = ltb-true 0 k (all_in positive v (and_parts _ _ p).1 (id, k) (find_in v id k e))

same_found : (f g : Option ℕ) → ((k : ℕ) → f ≡ Some k → 0 < k) → ((k : ℕ) → g ≡ Some k → 0 < k) → unwrap_or f 0 ≡ unwrap_or g 0 → f ≡ g
same_found None None p q e = refl
same_found None (Some k) p q e = let h = q k refl in absurd (omega arith)
same_found (Some k) None p q e = let h = p k refl in absurd (omega arith)
same_found (Some k) (Some j) p q e = ap Some e

pub same_vector : (a b : Vector) → IsCanonical a → IsCanonical b → ((id : ℕ) → counter a id ≡ counter b id) → a ≡ b
same_vector a b p q each =
    same_entries nat_cmp nat_cmp_total nat_cmp-IsAntisymmetric a b (sorted_of a p) (sorted_of b q)
    (λ id. same_found (find nat_cmp id a) (find nat_cmp id b) (λ k. found_positive a id k p) (λ k. found_positive b id k q) (each id))

-- a counter that is in the vector
pub counter_of : (v : Vector) → IsCanonical v → (c : ℕ × ℕ) → In c v → counter v c.0 ≡ c.1
counter_of v p c i = ap (λ f. unwrap_or f 0) (in_find v (sorted_of v p) c i)

-- a counter is 0 or is in the list
pub zero_or_in : (v : Vector) (id : ℕ) → (counter v id ≡ 0) ⊎ In (id, counter v id) v
zero_or_in v id =
    elim (find nat_cmp id v) as (λ f. find nat_cmp id v ≡ f → (unwrap_or f 0 ≡ 0) ⊎ In (id, unwrap_or f 0) v) [
      | None ↦ λ e. inl refl
      | Some n ↦ λ e. inr (find_in v id n e)
    ] refl
