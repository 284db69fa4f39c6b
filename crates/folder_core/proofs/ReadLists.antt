-- Lists without repeats: how many elements they have, and rising lists that have the same elements.
use Rattle.std.proofs.Common.{◌≡◌, ◌≢◌, ℕ, zero, suc, ◌+◌, ◌<◌, ◌≤◌, List, [], ◌∷◌, length, get_or, refl, sym, ap, subst, ◌∙◌, arith, ◌⊎◌, inl, inr}
use Rattle.std.specs.Prelude.{AllPairs, map, filter, sum_by, ⊤, Bool, true, false, cond}
use Rattle.std.specs.List.{AllByRecursion}
use Rattle.std.specs.List.Sorted.{IsStrictlySortedBy}
use Rattle.std.specs.Cmp.{IsTotalOrder, tied_itself}
use Rattle.std.specs.Ordering.{is_lt}
use Rattle.std.specs.declared.cmp.Ordering.{Ordering}
use Rattle.std.specs.declared.cmp.Ordering.TheVariants.{Less}
use Rattle.std.proofs.lemmas.Bool.{true≢false}
use Rattle.std.proofs.lemmas.List.Sums.{sum_by-cons}
use Rattle.folder_core.proofs.ListTests.{In, in_contains, of_filter, of_map}
use Rattle.folder_core.proofs.ReadAnswers.{all_at}

-- no element is one of those after it
abbrev pub Apart : {A : Type 0} → List A → Type 0
Apart [] = ⊤
Apart (x ∷ xs) = ¬ (In x xs) × Apart xs

module _ {A : Type 0} where
  pub at_in : (xs : List A) (k : ℕ) (d : A) → k < length xs → In (get_or xs k d) xs
  at_in [] k d below = absurd (omega arith)
  at_in (x ∷ xs) zero d below = inl refl
  at_in (x ∷ xs) (suc k) d below = inr (at_in xs k d (omega arith))

  pub apart-pairs : (xs : List A) → Apart xs → AllPairs (λ x y. x ≢ y) xs
  apart-pairs [] apart i j d before below = absurd (omega arith)
  apart-pairs (x ∷ xs) apart i zero d before below = absurd (omega arith)
  apart-pairs (x ∷ xs) apart zero (suc j) d before below = λ same. apart.0 (subst (λ y. In y xs) (sym same) (at_in xs j d (omega arith)))
  apart-pairs (x ∷ xs) apart (suc i) (suc j) d before below = apart-pairs xs apart.1 i j d (omega arith) (omega arith)

  pub pairs-apart : (xs : List A) → AllPairs (λ x y. x ≢ y) xs → Apart xs
  pairs-apart [] pairs = tt
  pairs-apart (x ∷ xs) pairs = (
    λ i. let c = in_contains xs x i in pairs 0 (suc c.0) x (omega arith) (let b = c.1 in omega arith) (sym c.2),
    pairs-apart xs (λ i j d before below. pairs (suc i) (suc j) d (omega arith) (omega arith)),
  )

  pub apart-filter : (p : A → Bool) (xs : List A) → Apart xs → Apart (filter p xs)
  apart-filter p [] apart = tt
  apart-filter p (x ∷ xs) apart =
      let rest = apart-filter p xs apart.1 in
      elim (p x) as (λ b. Apart (cond b (x ∷ filter p xs) (filter p xs))) [
        | true ↦ (λ i. apart.0 (of_filter p xs x i).0, rest)
        | false ↦ rest
      ]

  -- the list without that element
  without : (x : A) (ys : List A) → In x ys → List A
  without x [] i = absurd i
  without x (y ∷ ys) (inl e) = ys
  without x (y ∷ ys) (inr i) = y ∷ without x ys i

  sum-without : (f : A → ℕ) (x : A) (ys : List A) (i : In x ys) → f x + sum_by f (without x ys i) ≡ sum_by f ys
  unfolding without
  sum-without f x [] i = absurd i
  sum-without f x (y ∷ ys) (inl e) = ap (λ z. f z + sum_by f ys) e ∙ sym (sum_by-cons f y ys)
  sum-without f x (y ∷ ys) (inr i) =
      let rest = sum-without f x ys i in
      let whole = sum_by-cons f y ys in
      let less = sum_by-cons f y (without x ys i) in
      omega arith

  in-without : (x z : A) (ys : List A) (i : In x ys) → In z ys → z ≢ x → In z (without x ys i)
  unfolding without
  in-without x z [] i j other = absurd i
  in-without x z (y ∷ ys) (inl e) (inl f) other = absurd (other (f ∙ sym e))
  in-without x z (y ∷ ys) (inl e) (inr j) other = j
  in-without x z (y ∷ ys) (inr i) (inl f) other = inl f
  in-without x z (y ∷ ys) (inr i) (inr j) other = inr (in-without x z ys i j other)

  -- a list without repeats, all of it in another, sums up to no more
  pub sum-within : (f : A → ℕ) (xs ys : List A) → Apart xs → ((x : A) → In x xs → In x ys) → sum_by f xs ≤ sum_by f ys
  sum-within f [] ys apart within = omega arith
  sum-within f (x ∷ xs) ys apart within =
      let i = within x (inl refl) in
      let rest = sum-within f xs (without x ys i) apart.1 (λ z j. in-without x z ys i (within z (inr j)) (λ e. apart.0 (subst (λ w. In w xs) e j))) in
      let whole = sum-without f x ys i in
      let more = sum_by-cons f x xs in
      omega arith

  length-sum : (xs : List A) → length xs ≡ sum_by (λ x. 1) xs
  length-sum [] = refl
  length-sum (x ∷ xs) = let rest = length-sum xs in let more = sum_by-cons (λ (y : A). 1) x xs in omega arith

  -- nor has it more elements
  pub length-within : (xs ys : List A) → Apart xs → ((x : A) → In x xs → In x ys) → length xs ≤ length ys
  length-within xs ys apart within =
      let a = length-sum xs in
      let b = length-sum ys in
      let c = sum-within (λ x. 1) xs ys apart within in
      omega arith

module _ {A B : Type 0} (f : A → B) where
  pub apart-map : (xs : List A) → Apart xs → ((x y : A) → In x xs → In y xs → f x ≡ f y → x ≡ y) → Apart (map f xs)
  apart-map [] apart one = tt
  apart-map (x ∷ xs) apart one = (
    λ i.
        let m = of_map f xs (f x) i in
        apart.0 (subst (λ y. In y xs) (sym (one x m.0 (inl refl) (inr m.1) (sym m.2))) m.1),
    apart-map xs apart.1 (λ y z i j. one y z (inr i) (inr j)),
  )

module _ {A : Type 0} (c : A → A → Ordering) (o : IsTotalOrder c) where
  pub not-itself : (x : A) → c x x ≡ Less → ⊥
  not-itself x less = true≢false (ap is_lt (sym less ∙ tied_itself o x))

  pub not-both : (x y : A) → c x y ≡ Less → c y x ≡ Less → ⊥
  not-both x y less more = not-itself x (o.trans x y x less more)

  pub rising-apart : (xs : List A) → IsStrictlySortedBy c xs → Apart xs
  unfolding IsStrictlySortedBy
  rising-apart [] rise = tt
  rising-apart (x ∷ xs) rise = (λ i. not-itself x (all_at (λ y. c x y ≡ Less) xs x rise.0 i), rising-apart xs rise.1)

  -- of two rising lists with the same elements, the first is the same
  first-same : (x y : A) (xs ys : List A) → AllByRecursion (λ z. c x z ≡ Less) xs → AllByRecursion (λ z. c y z ≡ Less) ys → (x ≡ y) ⊎ In x ys → (y ≡ x) ⊎ In y xs → x ≡ y
  first-same x y xs ys above over (inl e) there = e
  first-same x y xs ys above over (inr i) (inl e) = sym e
  first-same x y xs ys above over (inr i) (inr j) = absurd (not-both x y (all_at (λ z. c x z ≡ Less) xs y above j) (all_at (λ z. c y z ≡ Less) ys x over i))

  not-first : (x y z : A) (xs ys : List A) → x ≡ y → AllByRecursion (λ w. c x w ≡ Less) xs → In z xs → (z ≡ y) ⊎ In z ys → In z ys
  not-first x y z xs ys same above i (inl e) =
      absurd (not-itself x (subst (λ w. c x w ≡ Less) (e ∙ sym same) (all_at (λ w. c x w ≡ Less) xs z above i)))
  not-first x y z xs ys same above i (inr j) = j

  -- and so are they all
  pub rising-same : (xs ys : List A) → IsStrictlySortedBy c xs → IsStrictlySortedBy c ys → ((x : A) → In x xs → In x ys) → ((x : A) → In x ys → In x xs) → xs ≡ ys
  unfolding IsStrictlySortedBy
  rising-same [] [] rise climb within covers = refl
  rising-same [] (y ∷ ys) rise climb within covers = absurd (covers y (inl refl))
  rising-same (x ∷ xs) [] rise climb within covers = absurd (within x (inl refl))
  rising-same (x ∷ xs) (y ∷ ys) rise climb within covers =
      let same = first-same x y xs ys rise.0 climb.0 (within x (inl refl)) (covers y (inl refl)) in
      let rest = rising-same xs ys rise.1 climb.1
      (λ z i. not-first x y z xs ys same rise.0 i (within z (inr i)))
      (λ z i. not-first y x z ys xs (sym same) climb.0 i (covers z (inr i))) in
      λ i. same i ∷ rest i
