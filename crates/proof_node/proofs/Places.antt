-- What stands at the places of lists that are made of others.
use Rattle.std.proofs.Common.{◌≡◌, ℕ, zero, suc, ◌+◌, ◌<◌, Bool, true, false, List, [], ◌∷◌, length, get_or, refl, sym, ap, subst, ◌∙◌, arith}
use Rattle.std.specs.Prelude.{AllPairs, cond, find, map, Option, Some, None, slice_get, unwrap_or}
use Rattle.std.specs.List.{enumerate_from, zip}
use Rattle.std.proofs.lemmas.Option.{none-some}

pub inside : {A : Type 0} (x y : A) → Some x ≡ Some y → x ≡ y
inside x y e = ap (λ o. unwrap_or o x) e

pub none-there : {A : Type 0} {P : Type 0} (x : A) → None ≡ Some x → P
none-there x e = absurd (none-some x e)

pub both-at : {A : Type 0} (o : Option A) (x y : A) → o ≡ Some x → o ≡ Some y → x ≡ y
both-at o x y e f = inside x y (sym e ∙ f)

-- ---- a list of what is made of another's elements

module _ {A B : Type 0} (f : A → B) where
  pub map-at : (xs : List A) (i : ℕ) (x : A) → slice_get xs i ≡ Some x → slice_get (map f xs) i ≡ Some (f x)
  map-at [] i x e = none-there x e
  map-at (y ∷ xs) zero x e = ap (λ z. Some (f z)) (inside y x e)
  map-at (y ∷ xs) (suc i) x e = map-at xs i x e

  pub of-map : (xs : List A) (i : ℕ) (y : B) → slice_get (map f xs) i ≡ Some y → (x : A) × (slice_get xs i ≡ Some x) × (f x ≡ y)
  of-map [] i y e = none-there y e
  of-map (x ∷ xs) zero y e = (x, refl, inside (f x) y e)
  of-map (x ∷ xs) (suc i) y e = of-map xs i y e

pub enumerate-at : {A : Type 0} (n : ℕ) (xs : List A) (i : ℕ) (x : A) → slice_get xs i ≡ Some x → slice_get (enumerate_from n xs) i ≡ Some (n + i, x)
enumerate-at n [] i x e = none-there x e
enumerate-at n (y ∷ xs) zero x e = let k : n ≡ n + 0 = omega arith in λ j. Some (k j, inside y x e j)
enumerate-at n (y ∷ xs) (suc i) x e = let k : n + 1 + i ≡ n + suc i = omega arith in enumerate-at (n + 1) xs i x e ∙ (λ j. Some (k j, x))

pub place-at : {A : Type 0} (xs : List A) (i : ℕ) (x : A) → slice_get xs i ≡ Some x → slice_get (enumerate_from 0 xs) i ≡ Some (i, x)
place-at xs i x e = let k : 0 + i ≡ i = omega arith in enumerate-at 0 xs i x e ∙ (λ j. Some (k j, x))

of-enumerate : {A : Type 0} (n : ℕ) (xs : List A) (i : ℕ) (p : ℕ × A) → slice_get (enumerate_from n xs) i ≡ Some p → (p.0 ≡ n + i) × (slice_get xs i ≡ Some p.1)
of-enumerate n [] i p e = none-there p e
of-enumerate n (y ∷ xs) zero p e = let same = inside (n, y) p e in let k : n ≡ n + 0 = omega arith in (sym (ap (λ (q : ℕ × _). q.0) same) ∙ k, ap (λ (q : ℕ × _). Some q.1) same)
of-enumerate n (y ∷ xs) (suc i) p e = let r = of-enumerate (n + 1) xs i p e in let k : n + 1 + i ≡ n + suc i = omega arith in (r.0 ∙ k, r.1)

pub of-place : {A : Type 0} (xs : List A) (i : ℕ) (p : ℕ × A) → slice_get (enumerate_from 0 xs) i ≡ Some p → (p.0 ≡ i) × (slice_get xs i ≡ Some p.1)
of-place xs i p e = let r = of-enumerate 0 xs i p e in let k : 0 + i ≡ i = omega arith in (r.0 ∙ k, r.1)

pub zip-at : {A B : Type 0} (xs : List A) (ys : List B) (i : ℕ) (x : A) (y : B) → slice_get xs i ≡ Some x → slice_get ys i ≡ Some y → slice_get (zip xs ys) i ≡ Some (x, y)
zip-at [] ys i x y e f = none-there x e
zip-at (a ∷ xs) [] i x y e f = none-there y f
zip-at (a ∷ xs) (b ∷ ys) zero x y e f = λ j. Some (inside a x e j, inside b y f j)
zip-at (a ∷ xs) (b ∷ ys) (suc i) x y e f = zip-at xs ys i x y e f

pub there-below : {A : Type 0} (xs : List A) (i : ℕ) (x : A) → slice_get xs i ≡ Some x → i < length xs
there-below [] i x e = none-there x e
there-below (y ∷ xs) zero x e = omega arith
there-below (y ∷ xs) (suc i) x e = let k = there-below xs i x e in omega arith

pub below-there : {A : Type 0} (xs : List A) (i : ℕ) → i < length xs → (x : A) × (slice_get xs i ≡ Some x)
below-there [] i lt = absurd (omega arith)
below-there (y ∷ xs) zero lt = (y, refl)
below-there (y ∷ xs) (suc i) lt = below-there xs i (omega arith)

pub get-or-at : {A : Type 0} (xs : List A) (i : ℕ) (x d : A) → slice_get xs i ≡ Some x → get_or xs i d ≡ x
get-or-at [] i x d e = none-there x e
get-or-at (y ∷ xs) zero x d e = inside y x e
get-or-at (y ∷ xs) (suc i) x d e = get-or-at xs i x d e

-- what holds of each pair
pub pair-at : {A : Type 0} (R : A → A → Type 0) (xs : List A) → AllPairs R xs → (i j : ℕ) (x y : A) → i < j → slice_get xs i ≡ Some x → slice_get xs j ≡ Some y → R x y
pair-at R xs all i j x y lt e f =
    subst (λ z. R z y) (get-or-at xs i x x e) (subst (λ z. R (get_or xs i x) z) (get-or-at xs j y x f) (all i j x lt (there-below xs j y f)))

-- lists with the same at each place are one
pub same-list : {A : Type 0} (xs ys : List A) → length xs ≡ length ys → ((i : ℕ) (x y : A) → slice_get xs i ≡ Some x → slice_get ys i ≡ Some y → x ≡ y) → xs ≡ ys
same-list [] [] long each = refl
same-list [] (y ∷ ys) long each = absurd (omega arith)
same-list (x ∷ xs) [] long each = absurd (omega arith)
same-list (x ∷ xs) (y ∷ ys) long each =
    let rest = same-list xs ys (omega arith) (λ i a b e f. each (suc i) a b e f) in
    λ j. each 0 x y refl refl j ∷ rest j

-- ---- numbered pairs, and what is made of their first or second parts

module _ {A B D E : Type 0} (h : ℕ × (A × B) → D) (g : D → E) where
  pub firsts-listed : (k : A → E) → ((i : ℕ) (x : A) (z : B) → g (h (i, (x, z))) ≡ k x)
      → (n : ℕ) (xs : List A) (zs : List B) → length zs ≡ length xs → map g (map h (enumerate_from n (zip xs zs))) ≡ map k xs
  firsts-listed k is n [] zs long = refl
  firsts-listed k is n (x ∷ xs) [] long = absurd (omega arith)
  firsts-listed k is n (x ∷ xs) (z ∷ zs) long = let rest = firsts-listed k is (n + 1) xs zs (omega arith) in λ j. is n x z j ∷ rest j

  pub seconds-listed : (k : B → E) → ((i : ℕ) (x : A) (z : B) → g (h (i, (x, z))) ≡ k z)
      → (n : ℕ) (xs : List A) (zs : List B) → length zs ≡ length xs → map g (map h (enumerate_from n (zip xs zs))) ≡ map k zs
  seconds-listed k is n [] [] long = refl
  seconds-listed k is n [] (z ∷ zs) long = absurd (omega arith)
  seconds-listed k is n (x ∷ xs) [] long = absurd (omega arith)
  seconds-listed k is n (x ∷ xs) (z ∷ zs) long = let rest = seconds-listed k is (n + 1) xs zs (omega arith) in λ j. is n x z j ∷ rest j

-- ---- the first element that passes

module _ {A : Type 0} (p : A → Bool) where
  pub find-first : (xs : List A) (i : ℕ) (x : A) → slice_get xs i ≡ Some x → p x ≡ true → ((j : ℕ) (y : A) → j < i → slice_get xs j ≡ Some y → p y ≡ false) → find p xs ≡ Some x
  find-first [] i x e t none = none-there x e
  find-first (y ∷ xs) zero x e t none = ap (λ b. cond b (Some y) (find p xs)) (ap p (inside y x e) ∙ t) ∙ e
  find-first (y ∷ xs) (suc i) x e t none =
      ap (λ b. cond b (Some y) (find p xs)) (none 0 y (omega arith) refl)
      ∙ find-first xs i x e t (λ j z lt at. none (suc j) z (omega arith) at)

  pub find-none : (xs : List A) → ((i : ℕ) (y : A) → slice_get xs i ≡ Some y → p y ≡ false) → find p xs ≡ None
  find-none [] none = refl
  find-none (y ∷ xs) none = ap (λ b. cond b (Some y) (find p xs)) (none 0 y refl) ∙ find-none xs (λ i z at. none (suc i) z at)
