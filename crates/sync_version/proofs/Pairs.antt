-- Pairs that are merged into a vector, one by one.
use Rattle.std.proofs.Common.{◌≡◌, ◌<◌, ◌≤◌, ◌⊎◌, ℕ, max, Bool, true, false, List, [], ◌∷◌, refl, sym, ap, subst, ◌∙◌, arith, inl, inr}
use Rattle.std.specs.Prelude.{cond}
use Rattle.std.specs.Ordering.{nat_cmp, eq_by_cmp, is_eq}
use Rattle.std.specs.Cmp.{nat_cmp_total, tied_itself}
use Rattle.sync_version.specs.Versions.{Vector, counter}
use Rattle.sync_version.specs.Computed.{with_counter, merge}
use Rattle.sync_version.proofs.Lists.{le_or_lt, In, tied}
use Rattle.sync_version.proofs.Vectors.{counter-put}

counter-with_counter : (v : Vector) (c : ℕ × ℕ) (q : ℕ) → counter (with_counter v c) q ≡ cond (eq_by_cmp nat_cmp q c.0) (max (counter v c.0) c.1) (counter v q)
counter-with_counter v c q = counter-put v c.0 (max (counter v c.0) c.1) q

-- with one more pair no counter is smaller
grows : (v : Vector) (c : ℕ × ℕ) (q : ℕ) → counter v q ≤ counter (with_counter v c) q
grows v c q = by (eq_by_cmp nat_cmp q c.0) refl
  where
    by : (b : Bool) → eq_by_cmp nat_cmp q c.0 ≡ b → counter v q ≤ counter (with_counter v c) q
    by true e =
        let same : counter v q ≡ counter v c.0 = ap (counter v) (tied q c.0 e) in
        let is : counter (with_counter v c) q ≡ max (counter v c.0) c.1 = counter-with_counter v c q ∙ ap (λ b. cond b (max (counter v c.0) c.1) (counter v q)) e in
        omega arith
    by false e =
        let is : counter (with_counter v c) q ≡ counter v q = counter-with_counter v c q ∙ ap (λ b. cond b (max (counter v c.0) c.1) (counter v q)) e in
        omega arith

-- and the pair's counter is at least the pair's value
reaches : (v : Vector) (c : ℕ × ℕ) → c.1 ≤ counter (with_counter v c) c.0
reaches v c =
    let is : counter (with_counter v c) c.0 ≡ max (counter v c.0) c.1 = counter-with_counter v c c.0 ∙ ap (λ r. cond (is_eq r) (max (counter v c.0) c.1) (counter v c.0)) (tied_itself nat_cmp_total c.0) in
    omega arith

-- and each counter is the pair's or as before
comes_from : (v : Vector) (c : ℕ × ℕ) (q : ℕ) → (counter (with_counter v c) q ≡ counter v q) ⊎ ((q, counter (with_counter v c) q) ≡ c)
comes_from v c q = by (eq_by_cmp nat_cmp q c.0) refl
  where
    here : q ≡ c.0 → counter (with_counter v c) q ≡ max (counter v c.0) c.1 → (c.1 ≤ counter v c.0) ⊎ (counter v c.0 < c.1)
        → (counter (with_counter v c) q ≡ counter v q) ⊎ ((q, counter (with_counter v c) q) ≡ c)
    here same is (inl le) = let at = ap (counter v) same in inl (omega arith)
    here same is (inr gt) = inr (λ i. (same i, (let e : counter (with_counter v c) q ≡ c.1 = omega arith in e) i))

    by : (b : Bool) → eq_by_cmp nat_cmp q c.0 ≡ b → (counter (with_counter v c) q ≡ counter v q) ⊎ ((q, counter (with_counter v c) q) ≡ c)
    by true e = here (tied q c.0 e) (counter-with_counter v c q ∙ ap (λ b. cond b (max (counter v c.0) c.1) (counter v q)) e) (le_or_lt c.1 (counter v c.0))
    by false e = inl (counter-with_counter v c q ∙ ap (λ b. cond b (max (counter v c.0) c.1) (counter v q)) e)

merge_grows : (v : Vector) (cs : List (ℕ × ℕ)) (q : ℕ) → counter v q ≤ counter (merge v cs) q
merge_grows v [] q = omega arith
merge_grows v (c ∷ cs) q = let x = grows v c q in let y = merge_grows (with_counter v c) cs q in omega arith

pub merge_reaches : (v : Vector) (cs : List (ℕ × ℕ)) (c : ℕ × ℕ) → In c cs → c.1 ≤ counter (merge v cs) c.0
merge_reaches v [] c i = absurd i
merge_reaches v (d ∷ cs) c (inl e) =
    let x = reaches v d in
    let y = merge_grows (with_counter v d) cs d.0 in
    let le : d.1 ≤ counter (merge (with_counter v d) cs) d.0 = omega arith in
    subst (λ (x : ℕ × ℕ). x.1 ≤ counter (merge (with_counter v d) cs) x.0) (sym e) le
merge_reaches v (d ∷ cs) c (inr i) = merge_reaches (with_counter v d) cs c i

pub merge_comes_from : (v : Vector) (cs : List (ℕ × ℕ)) (q : ℕ) → (counter (merge v cs) q ≡ counter v q) ⊎ In (q, counter (merge v cs) q) cs
merge_comes_from v [] q = inl refl
merge_comes_from v (c ∷ cs) q = by (merge_comes_from (with_counter v c) cs q) (comes_from v c q)
  where
    by : (counter (merge (with_counter v c) cs) q ≡ counter (with_counter v c) q) ⊎ In (q, counter (merge (with_counter v c) cs) q) cs
        → (counter (with_counter v c) q ≡ counter v q) ⊎ ((q, counter (with_counter v c) q) ≡ c)
        → (counter (merge (with_counter v c) cs) q ≡ counter v q) ⊎ (((q, counter (merge (with_counter v c) cs) q) ≡ c) ⊎ In (q, counter (merge (with_counter v c) cs) q) cs)
    by (inr i) r = inr (inr i)
    by (inl e) (inl f) = inl (e ∙ f)
    by (inl e) (inr f) = inr (inl (ap (λ n. (q, n)) e ∙ f))
