-- Lists of what tokens know and of the histories of passes, by place.
use Rattle.std.proofs.Common.{◌≡◌, ◌≢◌, ◌⊎◌, ℕ, zero, suc, ◌+◌, ◌<◌, List, [], ◌∷◌, ◌++◌, length, map, set, sym, refl, ap, subst, inl, inr, ⊎_elim, arith}
use mathlib.Core.Option.{some, some-injective, some-ne-none}
use lib.ListN.{get_elem?}
use Rattle.atomic_table.proofs.Lists.{at_set}

module _ {A : Type 0} where
  pub at_none : (i : ℕ) (a : A) → get_elem? {A = A} [] i ≡ some a → ⊥
  at_none i a e = some-ne-none a (sym e)

  -- one element alone
  pub at_one : (x : A) (i : ℕ) (a : A) → get_elem? (x ∷ []) i ≡ some a → (i ≡ 0) × (x ≡ a)
  at_one x zero a e = (refl, some-injective x a e)
  at_one x (suc i) a e = absurd (some-ne-none a (sym e))

  -- the last element stands at the old length
  pub at_end : (l : List A) (a b : A) (j : ℕ) → get_elem? (l ++ a ∷ []) j ≡ some b → (get_elem? l j ≡ some b) ⊎ ((j ≡ length l) × (a ≡ b))
  at_end [] a b zero e = inr (refl, some-injective a b e)
  at_end [] a b (suc j) e = absurd (some-ne-none b (sym e))
  at_end (x ∷ xs) a b zero e = inl e
  at_end (x ∷ xs) a b (suc j) e = ⊎_elim (λ h. inl h) (λ h. inr (ap suc h.0, h.1)) (at_end xs a b j e)

  pub at_append : (l m : List A) (i : ℕ) (a : A) → get_elem? (l ++ m) i ≡ some a → (get_elem? l i ≡ some a) ⊎ ((k : ℕ) × (i ≡ length l + k) × (get_elem? m k ≡ some a))
  at_append [] m i a e = inr (i, omega arith, e)
  at_append (x ∷ xs) m zero a e = inl e
  at_append (x ∷ xs) m (suc i) a e = ⊎_elim (λ h. inl h) (λ h. inr (h.0, (let s = h.1 in omega arith), h.2)) (at_append xs m i a e)

  pub below_length : (l : List A) (i : ℕ) (a : A) → get_elem? l i ≡ some a → i < length l
  below_length [] i a e = absurd (some-ne-none a (sym e))
  below_length (x ∷ xs) zero a e = omega arith
  below_length (x ∷ xs) (suc i) a e = let h = below_length xs i a e in omega arith

  pub of_map : {B : Type 0} (f : B → A) (l : List B) (i : ℕ) (a : A) → get_elem? (map f l) i ≡ some a → (b : B) × (get_elem? l i ≡ some b) × (f b ≡ a)
  of_map f [] i a e = absurd (some-ne-none a (sym e))
  of_map f (x ∷ xs) zero a e = (x, refl, some-injective (f x) a e)
  of_map f (x ∷ xs) (suc i) a e = of_map f xs i a e

  -- a fact of each element, after one is written
  pub all_set : (F : ℕ → A → Type 0) (l : List A) (port : ℕ) (w : A) → F port w → ((j : ℕ) (u : A) → j ≢ port → get_elem? l j ≡ some u → F j u) → (j : ℕ) (u : A) → get_elem? (set l port w) j ≡ some u → F j u
  all_set F l port w here others j u e = ⊎_elim (λ (x : (j ≡ port) × (w ≡ u)). subst (λ (y : ℕ × A). F y.0 y.1) (λ i. (sym x.0 i, x.1 i)) here)
      (λ (x : (j ≢ port) × (get_elem? l j ≡ some u)). others j u x.0 x.1) (at_set l port j w u e)

  -- the same after one more is added
  pub all_end : (F : ℕ → A → Type 0) (l : List A) (w : A) → F (length l) w → ((j : ℕ) (u : A) → get_elem? l j ≡ some u → F j u) → (j : ℕ) (u : A) → get_elem? (l ++ w ∷ []) j ≡ some u → F j u
  all_end F l w here others j u e = ⊎_elim (λ (x : get_elem? l j ≡ some u). others j u x)
      (λ (x : (j ≡ length l) × (w ≡ u)). subst (λ (y : ℕ × A). F y.0 y.1) (λ i. (sym x.0 i, x.1 i)) here) (at_end l w u j e)
