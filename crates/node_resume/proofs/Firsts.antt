-- Places that are listed once each.
use Rattle.std.proofs.Common.{◌≡◌, ℕ, Bool, true, false, List, [], ◌∷◌, ◌++◌, refl, sym, ap, ◌∙◌}
use Rattle.std.specs.Prelude.{◌==◌, ◌||◌, cond, filter, map, not}
use Rattle.std.specs.List.{list_any}
use Rattle.std.proofs.lemmas.Bool.{eqb-true, eq-eqb}
use Rattle.std.proofs.lemmas.List.{append-nil, map-append}
use Rattle.std.proofs.lemmas.List.Elements.{filter-append}
use Rattle.node_resume.specs.declared.shares.Share.{Share}
use Rattle.node_resume.specs.Shares.{firsts}

abbrev is_other : ℕ → ℕ → Bool
is_other z y = not (y == z)

any-other : (x z : ℕ) → (z == x) ≡ false → (ys : List ℕ) → list_any (λ y. y == x) (filter (is_other z) ys) ≡ list_any (λ y. y == x) ys
any-other x z other [] = refl
any-other x z other (y ∷ ys) =
    elim (y == z) as (λ b. (y == z) ≡ b → list_any (λ y. y == x) (cond (not b) (y ∷ filter (is_other z) ys) (filter (is_other z) ys)) ≡ ((y == x) || list_any (λ y. y == x) ys)) [
      | true ↦ λ t. any-other x z other ys ∙ sym (ap (λ b. b || list_any (λ y. y == x) ys) (ap (λ n. n == x) (eqb-true y z t) ∙ other))
      | false ↦ λ t. ap (λ b. (y == x) || b) (any-other x z other ys)
    ] refl

pub any-firsts : (x : ℕ) (xs : List ℕ) → list_any (λ y. y == x) (firsts xs) ≡ list_any (λ y. y == x) xs
any-firsts x [] = refl
any-firsts x (z ∷ xs) =
    elim (z == x) as (λ b. (z == x) ≡ b → (b || list_any (λ y. y == x) (filter (is_other z) (firsts xs))) ≡ (b || list_any (λ y. y == x) xs)) [
      | true ↦ λ t. refl
      | false ↦ λ t. any-other x z t (firsts xs) ∙ any-firsts x xs
    ] refl

module _ (x z : ℕ) (fs : List ℕ) where
  pushed : (b : Bool) → (x == z) ≡ b → filter (is_other z) (fs ++ x ∷ []) ≡ filter (is_other z) fs ++ cond (not b) (x ∷ []) []
  pushed b e = filter-append (is_other z) fs (x ∷ []) ∙ ap (λ t. filter (is_other z) fs ++ cond (not t) (x ∷ []) []) e

  turned : (b : Bool) → (z == x) ≡ b → (x == z) ≡ b
  turned true t = eq-eqb x z (sym (eqb-true z x t))
  turned false f = elim (x == z) as (λ b. (x == z) ≡ b → (x == z) ≡ false) [ true ↦ λ t. absurd (cc (sym (eq-eqb z x (sym (eqb-true x z t))) ∙ f)) | false ↦ λ t. t ] refl

  step : (a b : Bool) → (z == x) ≡ a → z ∷ filter (is_other z) (cond b fs (fs ++ x ∷ [])) ≡ cond (a || b) (z ∷ filter (is_other z) fs) (z ∷ (filter (is_other z) fs ++ x ∷ []))
  step true true e = refl
  step true false e = ap (λ l. z ∷ l) (pushed true (turned true e) ∙ append-nil (filter (is_other z) fs))
  step false true e = refl
  step false false e = ap (λ l. z ∷ l) (pushed false (turned false e))

firsts-push : (x : ℕ) (xs : List ℕ) → firsts (xs ++ x ∷ []) ≡ cond (list_any (λ y. y == x) xs) (firsts xs) (firsts xs ++ x ∷ [])
firsts-push x [] = refl
firsts-push x (z ∷ xs) =
    ap (λ fs. z ∷ filter (is_other z) fs) (firsts-push x xs)
    ∙ step x z (firsts xs) (z == x) (list_any (λ y. y == x) xs) refl

any-folders : (share : ℕ → Share) → ((y : ℕ) → (share y).folder ≡ y) → (x : ℕ) (ys : List ℕ) → list_any (λ s. s.folder == x) (map share ys) ≡ list_any (λ y. y == x) ys
any-folders share own x [] = refl
any-folders share own x (y ∷ ys) = ap (λ n. (n == x) || list_any (λ s. s.folder == x) (map share ys)) (own y) ∙ ap (λ b. (y == x) || b) (any-folders share own x ys)

module _ (share : ℕ → Share) (own : (y : ℕ) → (share y).folder ≡ y) (x : ℕ) (xs : List ℕ) where
  has : list_any (λ s. s.folder == x) (map share (firsts xs)) ≡ list_any (λ y. y == x) xs
  has = any-folders share own x (firsts xs) ∙ any-firsts x xs

  pub shares-again : list_any (λ s. s.folder == x) (map share (firsts xs)) ≡ true → map share (firsts (xs ++ x ∷ [])) ≡ map share (firsts xs)
  shares-again t = ap (map share) (firsts-push x xs ∙ ap (λ b. cond b (firsts xs) (firsts xs ++ x ∷ [])) (sym has ∙ t))

  pub shares-more : list_any (λ s. s.folder == x) (map share (firsts xs)) ≡ false → map share (firsts (xs ++ x ∷ [])) ≡ map share (firsts xs) ++ share x ∷ []
  shares-more f =
      ap (map share) (firsts-push x xs ∙ ap (λ b. cond b (firsts xs) (firsts xs ++ x ∷ [])) (sym has ∙ f))
      ∙ map-append share (firsts xs) (x ∷ [])
