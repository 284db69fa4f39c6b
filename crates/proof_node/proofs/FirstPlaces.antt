-- Numbers that are listed once each stand in the order in which they first stand.
use Rattle.std.proofs.Common.{◌≡◌, ℕ, zero, suc, ◌<◌, Bool, true, false, List, [], ◌∷◌, length, get_or, refl, sym, ap, subst, ◌∙◌, arith}
use Rattle.std.specs.Prelude.{◌==◌, Contains, cond, filter, not, Some, slice_get}
use Rattle.std.proofs.lemmas.Bool.{eqb-true, eq-eqb, true≢false}
use Rattle.node_resume.specs.Shares.{firsts}
use Rattle.proof_node.specs.Firsts.{IsFirstPlace}
use Rattle.proof_node.proofs.Places.{inside, none-there, there-below}

-- ---- what a filter keeps

module _ {A : Type 0} (p : A → Bool) where
  abbrev RuleHolds : List A → A → Type 0
  RuleHolds xs x = (k : ℕ) × (slice_get xs k ≡ Some x) × (p x ≡ true)

  kept-here : (y x : A) (xs : List A) → p y ≡ true → ((i : ℕ) → slice_get (filter p xs) i ≡ Some x → RuleHolds xs x) → (i : ℕ) → slice_get (y ∷ filter p xs) i ≡ Some x → RuleHolds (y ∷ xs) x
  kept-here y x xs t rest zero e = (0, e, ap p (sym (inside y x e)) ∙ t)
  kept-here y x xs t rest (suc i) e = let r = rest i e in (suc r.0, r.1, r.2)

  pub filter-at : (xs : List A) (i : ℕ) (x : A) → slice_get (filter p xs) i ≡ Some x → RuleHolds xs x
  filter-at [] i x e = none-there x e
  filter-at (y ∷ xs) i x e =
      elim (p y) as (λ b. p y ≡ b → slice_get (cond b (y ∷ filter p xs) (filter p xs)) i ≡ Some x → RuleHolds (y ∷ xs) x) [
        | true ↦ λ t e. kept-here y x xs t (λ i e. filter-at xs i x e) i e
        | false ↦ λ t e. let r = filter-at xs i x e in (suc r.0, r.1, r.2)
      ] refl e

  abbrev Ordered : List A → A → A → Type 0
  Ordered xs x y = (k : ℕ) × (l : ℕ) × (slice_get xs k ≡ Some x) × (slice_get xs l ≡ Some y) × (k < l)

  order-shifted : (z x y : A) (xs : List A) → Ordered xs x y → Ordered (z ∷ xs) x y
  order-shifted z x y xs o = let lt = o.4 in (suc o.0, suc o.1, o.2, o.3, omega arith)

  order-here : (z x y : A) (xs : List A) → ((i j : ℕ) → i < j → slice_get (filter p xs) i ≡ Some x → slice_get (filter p xs) j ≡ Some y → Ordered xs x y)
      → (i j : ℕ) → i < j → slice_get (z ∷ filter p xs) i ≡ Some x → slice_get (z ∷ filter p xs) j ≡ Some y → Ordered (z ∷ xs) x y
  order-here z x y xs rest zero zero lt e f = absurd (omega arith)
  order-here z x y xs rest zero (suc j) lt e f = let r = filter-at xs j y f in (0, suc r.0, e, r.1, omega arith)
  order-here z x y xs rest (suc i) zero lt e f = absurd (omega arith)
  order-here z x y xs rest (suc i) (suc j) lt e f = order-shifted z x y xs (rest i j (omega arith) e f)

  pub filter-order : (xs : List A) (i j : ℕ) (x y : A) → i < j → slice_get (filter p xs) i ≡ Some x → slice_get (filter p xs) j ≡ Some y → Ordered xs x y
  filter-order [] i j x y lt e f = none-there x e
  filter-order (z ∷ xs) i j x y lt e f =
      elim (p z) as (λ b. slice_get (cond b (z ∷ filter p xs) (filter p xs)) i ≡ Some x → slice_get (cond b (z ∷ filter p xs) (filter p xs)) j ≡ Some y → Ordered (z ∷ xs) x y) [
        | true ↦ λ e f. order-here z x y xs (λ i j lt e f. filter-order xs i j x y lt e f) i j lt e f
        | false ↦ λ e f. order-shifted z x y xs (filter-order xs i j x y lt e f)
      ] e f

  abbrev There : List A → A → Type 0
  There xs x = (k : ℕ) × (slice_get xs k ≡ Some x)

  pub at-filter : (xs : List A) (k : ℕ) (x : A) → slice_get xs k ≡ Some x → p x ≡ true → There (filter p xs) x
  at-filter [] k x e t = none-there x e
  at-filter (y ∷ xs) zero x e t = subst (λ b. There (cond b (y ∷ filter p xs) (filter p xs)) x) (sym t ∙ ap p (sym (inside y x e))) (0, e)
  at-filter (y ∷ xs) (suc k) x e t =
      let r = at-filter xs k x e t in
      elim (p y) as (λ b. There (cond b (y ∷ filter p xs) (filter p xs)) x) [ true ↦ (suc r.0, r.1) | false ↦ r ]

-- ---- each number once

abbrev is_other : ℕ → ℕ → Bool
is_other z y = not (y == z)

other : (z x : ℕ) → is_other z x ≡ true → z ≡ x → ⊥
other z x t s = true≢false (sym t ∙ ap not (eq-eqb x z (sym s)))

shifted : (z x : ℕ) (xs : List ℕ) (k : ℕ) → (z ≡ x → ⊥) → IsFirstPlace xs k x → IsFirstPlace (z ∷ xs) (suc k) x
shifted z x xs k unlike f = record { at = f.at; is = refl; first = earlier }
  where
    earlier : (i y : ℕ) → i < suc k → slice_get (z ∷ xs) i ≡ Some y → ¬ (y ≡ x)
    earlier zero y lt e s = unlike (inside z y e ∙ s)
    earlier (suc i) y lt e s = f.first i y (omega arith) e s

front : (z x : ℕ) (xs : List ℕ) → slice_get (z ∷ xs) 0 ≡ Some x → IsFirstPlace (z ∷ xs) 0 x
front z x xs e = record { at = e; is = refl; first = λ i y lt f s. absurd (omega arith) }

pub firsts-first : (xs : List ℕ) (i x : ℕ) → slice_get (firsts xs) i ≡ Some x → (k : ℕ) × IsFirstPlace xs k x
firsts-first [] i x e = none-there x e
firsts-first (z ∷ xs) zero x e = (0, front z x xs e)
firsts-first (z ∷ xs) (suc i) x e =
    let f = filter-at (is_other z) (firsts xs) i x e in
    let r = firsts-first xs f.0 x f.1 in
    (suc r.0, shifted z x xs r.0 (other z x f.2) r.1)

pub firsts-order : (xs : List ℕ) (i j x y : ℕ) → i < j → slice_get (firsts xs) i ≡ Some x → slice_get (firsts xs) j ≡ Some y → (k : ℕ) × (l : ℕ) × IsFirstPlace xs k x × IsFirstPlace xs l y × (k < l)
firsts-order [] i j x y lt e f = none-there x e
firsts-order (z ∷ xs) zero zero x y lt e f = absurd (omega arith)
firsts-order (z ∷ xs) (suc i) zero x y lt e f = absurd (omega arith)
firsts-order (z ∷ xs) zero (suc j) x y lt e f =
    let g = filter-at (is_other z) (firsts xs) j y f in
    let r = firsts-first xs g.0 y g.1 in
    (0, suc r.0, front z x xs e, shifted z y xs r.0 (other z y g.2) r.1, omega arith)
firsts-order (z ∷ xs) (suc i) (suc j) x y lt e f =
    let o = filter-order (is_other z) (firsts xs) i j x y (omega arith) e f in
    let r = firsts-order xs o.0 o.1 x y o.4 o.2 o.3 in
    let a = filter-at (is_other z) (firsts xs) i x e in
    let b = filter-at (is_other z) (firsts xs) j y f in
    let below : r.0 < r.1 = r.4 in
    (suc r.0, suc r.1, shifted z x xs r.0 (other z x a.2) r.2, shifted z y xs r.1 (other z y b.2) r.3, omega arith)

pub firsts-has : (xs : List ℕ) (k x : ℕ) → slice_get xs k ≡ Some x → (i : ℕ) × (slice_get (firsts xs) i ≡ Some x)
firsts-has [] k x e = none-there x e
firsts-has (z ∷ xs) zero x e = (0, e)
firsts-has (z ∷ xs) (suc k) x e =
    let r = firsts-has xs k x e in
    elim (x == z) as (λ b. (x == z) ≡ b → (i : ℕ) × (slice_get (firsts (z ∷ xs)) i ≡ Some x)) [
      | true ↦ λ t. (0, ap Some (sym (eqb-true x z t)))
      | false ↦ λ t. let f = at-filter (is_other z) (firsts xs) r.0 x r.1 (ap not t) in (suc f.0, f.1)
    ] refl

-- ---- an element, by its place

pub contains-there : {A : Type 0} (xs : List A) (x : A) → Contains xs x → (k : ℕ) × (slice_get xs k ≡ Some x)
contains-there xs x c = (c.0, read xs c.0 c.1 ∙ ap Some c.2)
  where
    read : (ys : List _) (k : ℕ) → k < length ys → slice_get ys k ≡ Some (get_or ys k x)
    read [] k lt = absurd (omega arith)
    read (y ∷ ys) zero lt = refl
    read (y ∷ ys) (suc k) lt = read ys k (omega arith)

pub there-contains : {A : Type 0} (xs : List A) (k : ℕ) (x : A) → slice_get xs k ≡ Some x → Contains xs x
there-contains xs k x e = (k, there-below xs k x e, read xs k e)
  where
    read : (ys : List _) (k : ℕ) → slice_get ys k ≡ Some x → get_or ys k x ≡ x
    read [] k e = none-there x e
    read (y ∷ ys) zero e = inside y x e
    read (y ∷ ys) (suc k) e = read ys k e
