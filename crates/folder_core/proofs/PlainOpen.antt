-- A list in the order of its keys, at the place of a key: what is found there, and what the list is after it was put,
-- set or removed there.
use Rattle.std.proofs.Common.{◌≡◌, ℕ, suc, ◌+◌, Bool, List, [], ◌∷◌, refl, sym, ap, ◌∙◌, arith}
use Rattle.std.specs.Prelude.{cond, not, T, Some, None, map, option_and_then, slice_get, slice_set}
use Rattle.std.specs.Cmp.{IsTotalOrder}
use Rattle.std.specs.FinMap.{IsAntisymmetric, find, put, is_sorted}
use Rattle.std.specs.FinMap.Entries.{below_all, by_order, where_key}
use Rattle.std.specs.List.{insert, prefix_len, remove}
use Rattle.std.specs.Ordering.{eq_by_cmp, is_eq, is_lt, ordering_reverse}
use Rattle.std.specs.declared.cmp.Ordering.{Ordering}
use Rattle.std.specs.declared.cmp.Ordering.TheVariants.{Less, Equal, Greater}
use Rattle.folder_core.proofs.ListTests.{inside, is_less, parts}

one_more : (n : ℕ) → 1 + n ≡ suc n
one_more n = omega arith

module _ {A K X : Type 0} {R : K → K → Ordering} (o : IsTotalOrder R) (same : IsAntisymmetric R) (f : A → K × X) (k : K) where
  abbrev pub before : A → Bool
  before x = is_lt (R (f x).0 k)

  abbrev pub there : List A → ℕ
  there xs = prefix_len before xs

  abbrev is_here : A → Bool
  is_here x = eq_by_cmp R k (f x).0

  -- the key is not among those after one that is after it
  find_past : (j : K) (es : List (K × X)) → R k j ≡ Less → T (below_all R j es) → find R k es ≡ None
  find_past j [] less b = refl
  find_past j (e ∷ es) less b =
      ap (λ r. cond (is_eq r) (Some e.1) (find R k es)) (o.trans k j e.0 less (is_less _ (parts _ _ b).0))
      ∙ find_past j es less (parts _ _ b).1

  back : (x : A) (r : Ordering) → R (f x).0 k ≡ r → R k (f x).0 ≡ ordering_reverse r
  back x r e = o.antisymm k (f x).0 ∙ ap ordering_reverse e

  not_greater : (x : A) → R (f x).0 k ≡ Greater → (f x).0 ≡ k → ⊥
  not_greater x e s = let t : Greater ≡ Less = sym e ∙ ap (λ j. R j k) s ∙ sym (ap (R k) s) ∙ back x Greater e in cc

  -- what is found under a key is at its place
  pub find-there : (xs : List A) → T (is_sorted R (map f xs)) → find R k (map f xs) ≡ option_and_then (λ x. cond (is_here x) (Some (f x).1) None) (slice_get xs (there xs))
  find-there [] h = refl
  find-there (x ∷ xs) h =
      elim (R (f x).0 k) as (λ r. R (f x).0 k ≡ r → find R k (map f (x ∷ xs)) ≡ option_and_then (λ y. cond (is_here y) (Some (f y).1) None) (slice_get (x ∷ xs) (cond (is_lt r) (1 + there xs) 0))) [
        | Less ↦ λ e.
            ap (λ r. cond (is_eq r) (Some (f x).1) (find R k (map f xs))) (back x Less e)
            ∙ find-there xs (parts _ _ h).1
            ∙ ap (λ i. option_and_then (λ y. cond (is_here y) (Some (f y).1) None) (slice_get (x ∷ xs) i)) (sym (one_more (there xs)))
        | Equal ↦ λ e.
            ap (λ r. cond (is_eq r) (Some (f x).1) (find R k (map f xs))) (back x Equal e)
            ∙ ap (λ r. cond (is_eq r) (Some (f x).1) None) (sym (back x Equal e))
        | Greater ↦ λ e.
            ap (λ r. cond (is_eq r) (Some (f x).1) (find R k (map f xs))) (back x Greater e)
            ∙ find_past (f x).0 (map f xs) (back x Greater e) (parts _ _ h).0
            ∙ ap (λ r. cond (is_eq r) (Some (f x).1) None) (sym (back x Greater e))
      ] refl

  -- one that isn't there is put at the place
  pub insert-there : (y : A) (xs : List A) → (f y).0 ≡ k → find R k (map f xs) ≡ None → map f (insert xs (there xs) y) ≡ put R k (f y).1 (map f xs)
  insert-there y [] here none = λ i. (here i, (f y).1) ∷ []
  insert-there y (x ∷ xs) here none =
      elim (R (f x).0 k) as (λ r. R (f x).0 k ≡ r → map f (insert (x ∷ xs) (cond (is_lt r) (1 + there xs) 0) y) ≡ put R k (f y).1 (map f (x ∷ xs))) [
        | Less ↦ λ e.
            ap (λ i. map f (insert (x ∷ xs) i y)) (one_more (there xs))
            ∙ ap (λ ys. f x ∷ ys) (insert-there y xs here (ap (λ r. cond (is_eq r) (Some (f x).1) (find R k (map f xs))) (sym (back x Less e)) ∙ none))
            ∙ ap (λ r. by_order r ((k, (f y).1) ∷ f x ∷ map f xs) (((f x).0, (f y).1) ∷ map f xs) (f x ∷ put R k (f y).1 (map f xs))) (sym (back x Less e))
        | Equal ↦ λ e. absurd (let found : Some (f x).1 ≡ None = ap (λ r. cond (is_eq r) (Some (f x).1) (find R k (map f xs))) (sym (back x Equal e)) ∙ none in cc)
        | Greater ↦ λ e.
            (λ i. (here i, (f y).1) ∷ f x ∷ map f xs)
            ∙ ap (λ r. by_order r ((k, (f y).1) ∷ f x ∷ map f xs) (((f x).0, (f y).1) ∷ map f xs) (f x ∷ put R k (f y).1 (map f xs))) (sym (back x Greater e))
      ] refl

  -- one that is there is set at the place
  pub set-there : (y z : A) (xs : List A) → (f y).0 ≡ k → slice_get xs (there xs) ≡ Some z → (f z).0 ≡ k → map f (slice_set xs (there xs) y) ≡ put R k (f y).1 (map f xs)
  set-there y z [] here found key = absurd (let e : None ≡ Some z = found in cc)
  set-there y z (x ∷ xs) here found key =
      elim (R (f x).0 k) as (λ r. R (f x).0 k ≡ r → slice_get (x ∷ xs) (cond (is_lt r) (1 + there xs) 0) ≡ Some z → map f (slice_set (x ∷ xs) (cond (is_lt r) (1 + there xs) 0) y) ≡ put R k (f y).1 (map f (x ∷ xs))) [
        | Less ↦ λ e at.
            ap (λ i. map f (slice_set (x ∷ xs) i y)) (one_more (there xs))
            ∙ ap (λ ys. f x ∷ ys) (set-there y z xs here (ap (slice_get (x ∷ xs)) (sym (one_more (there xs))) ∙ at) key)
            ∙ ap (λ r. by_order r ((k, (f y).1) ∷ f x ∷ map f xs) (((f x).0, (f y).1) ∷ map f xs) (f x ∷ put R k (f y).1 (map f xs))) (sym (back x Less e))
        | Equal ↦ λ e at.
            (λ i. ((here ∙ sym (same (f x).0 k e)) i, (f y).1) ∷ map f xs)
            ∙ ap (λ r. by_order r ((k, (f y).1) ∷ f x ∷ map f xs) (((f x).0, (f y).1) ∷ map f xs) (f x ∷ put R k (f y).1 (map f xs))) (sym (back x Equal e))
        | Greater ↦ λ e at. absurd (not_greater x e (ap (λ (w : A). (f w).0) (inside x z at) ∙ key))
      ] refl found

  abbrev but : List (K × X) → List (K × X)
  but es = where_key R (λ j. not (eq_by_cmp R k j)) es

  -- no key after it is left out
  all_kept : (j : K) (es : List (K × X)) → k ≡ j → T (below_all R j es) → but es ≡ es
  all_kept j [] s b = refl
  all_kept j (e ∷ es) s b =
      ap (λ r. cond (not (is_eq r)) (e ∷ but es) (but es)) (ap (λ i. R i e.0) s ∙ is_less _ (parts _ _ b).0)
      ∙ ap (λ ys. e ∷ ys) (all_kept j es s (parts _ _ b).1)

  -- without what is at the place
  pub remove-there : (z : A) (xs : List A) → T (is_sorted R (map f xs)) → slice_get xs (there xs) ≡ Some z → (f z).0 ≡ k → map f (remove xs (there xs)) ≡ but (map f xs)
  remove-there z [] h found key = absurd (let e : None ≡ Some z = found in cc)
  remove-there z (x ∷ xs) h found key =
      elim (R (f x).0 k) as (λ r. R (f x).0 k ≡ r → slice_get (x ∷ xs) (cond (is_lt r) (1 + there xs) 0) ≡ Some z → map f (remove (x ∷ xs) (cond (is_lt r) (1 + there xs) 0)) ≡ but (map f (x ∷ xs))) [
        | Less ↦ λ e at.
            ap (λ i. map f (remove (x ∷ xs) i)) (one_more (there xs))
            ∙ ap (λ ys. f x ∷ ys) (remove-there z xs (parts _ _ h).1 (ap (slice_get (x ∷ xs)) (sym (one_more (there xs))) ∙ at) key)
            ∙ ap (λ r. cond (not (is_eq r)) (f x ∷ but (map f xs)) (but (map f xs))) (sym (back x Less e))
        | Equal ↦ λ e at.
            sym (all_kept (f x).0 (map f xs) (same k (f x).0 (back x Equal e)) (parts _ _ h).0)
            ∙ ap (λ r. cond (not (is_eq r)) (f x ∷ but (map f xs)) (but (map f xs))) (sym (back x Equal e))
        | Greater ↦ λ e at. absurd (not_greater x e (ap (λ (w : A). (f w).0) (inside x z at) ∙ key))
      ] refl found
