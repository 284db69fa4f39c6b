-- The least free number, as it is looked for.
use Rattle.std.proofs.Common.{◌≡◌, ℕ, zero, suc, ◌+◌, ◌<◌, ◌≤◌, Bool, true, false, List, [], ◌∷◌, length, refl, sym, ap, subst, ◌∙◌, arith}
use Rattle.std.specs.Prelude.{cond, not, ◌==◌, ◌||◌, find, map, Option, Some, None, unwrap_or}
use Rattle.std.specs.List.{list_any, range_with_len}
use Rattle.std.proofs.lemmas.Bool.{true≢false, eq-eqb, eqb-true}
use Rattle.std.proofs.lemmas.Option.{none-some}
use Rattle.folder_core.specs.declared.plain.pull.OpenPull.{OpenPull}
use Rattle.folder_core.specs.Steps.{least_free}
use Rattle.folder_core.proofs.ListTests.{In, any_in, in_any, inside}
use Rattle.folder_core.proofs.PullNumbers.{below_least, least_new, least_positive}

abbrev pub numbers_of : List OpenPull → List ℕ
numbers_of ps = map (λ p. p.number) ps

abbrev pub is_used : List OpenPull → ℕ → Bool
is_used ps n = list_any (λ p. p.number == n) ps

length-numbers : (ps : List OpenPull) → length (numbers_of ps) ≡ length ps
length-numbers [] = refl
length-numbers (p ∷ ps) = ap suc (length-numbers ps)

used_by : (ps : List OpenPull) (n : ℕ) → list_any (λ m. m == n) (numbers_of ps) ≡ is_used ps n
used_by [] n = refl
used_by (p ∷ ps) n = ap (λ b. (p.number == n) || b) (used_by ps n)

used-in : (ps : List OpenPull) (n : ℕ) → is_used ps n ≡ true → In n (numbers_of ps)
used-in ps n t =
    let r = any_in (λ m. m == n) (numbers_of ps) (used_by ps n ∙ t) in
    subst (λ x. In x (numbers_of ps)) (eqb-true r.0 n r.2) r.1

in-used : (ps : List OpenPull) (n : ℕ) → In n (numbers_of ps) → is_used ps n ≡ true
in-used ps n i = sym (used_by ps n) ∙ in_any (λ m. m == n) (numbers_of ps) n i (eq-eqb n n refl)

range_end : (p : ℕ → Bool) (a n k : ℕ) → find p (range_with_len a n) ≡ Some k → k < a + n
range_end p a zero k e = absurd (none-some k e)
range_end p a (suc n) k e =
    elim (p a) as (λ b. cond b (Some a) (find p (range_with_len (a + 1) n)) ≡ Some k → k < a + suc n) [
      | true ↦ λ s. let here : a ≡ k = inside a k s in omega arith
      | false ↦ λ s. let r = range_end p (a + 1) n k s in omega arith
    ] e

least_bound : (used : List ℕ) → least_free used ≤ length used + 1
least_bound used = by (find (λ n. not (list_any (λ m. m == n) used)) (range_with_len 1 (length used + 1))) refl
  where
    by : (o : Option ℕ) → find (λ n. not (list_any (λ m. m == n) used)) (range_with_len 1 (length used + 1)) ≡ o → unwrap_or o 0 ≤ length used + 1
    by (Some k) e = let h = range_end (λ n. not (list_any (λ m. m == n) used)) 1 (length used + 1) k e in omega arith
    by None e = omega arith

-- the first that isn't used
pub least_is : (ps : List OpenPull) (k : ℕ) → 1 ≤ k → is_used ps k ≡ false → ((m : ℕ) → 1 ≤ m → m < k → is_used ps m ≡ true) → k ≡ least_free (numbers_of ps)
least_is ps k positive free used =
    let lower : least_free (numbers_of ps) < k → ⊥ = λ l. least_new (numbers_of ps) (used-in ps (least_free (numbers_of ps)) (used (least_free (numbers_of ps)) (least_positive (numbers_of ps)) l)) in
    let upper : k < least_free (numbers_of ps) → ⊥ = λ l. true≢false (sym (in-used ps k (below_least (numbers_of ps) k positive l)) ∙ free) in
    omega (arith, lower, upper)

-- and the next, where as many as there are pulls are used
pub least_past : (ps : List OpenPull) → ((m : ℕ) → 1 ≤ m → m < length ps + 1 → is_used ps m ≡ true) → length ps + 1 ≡ least_free (numbers_of ps)
least_past ps used =
    let len = length-numbers ps in
    let bound = least_bound (numbers_of ps) in
    let lower : least_free (numbers_of ps) < length ps + 1 → ⊥ = λ l. least_new (numbers_of ps) (used-in ps (least_free (numbers_of ps)) (used (least_free (numbers_of ps)) (least_positive (numbers_of ps)) l)) in
    omega (arith, lower, len, bound)
