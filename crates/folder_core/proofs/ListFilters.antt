-- Tests of lists, as the proofs on the plain folder use them.
use Rattle.std.proofs.Common.{◌≡◌, Bool, true, false, List, [], ◌∷◌, refl, sym, ap, subst, ◌∙◌, inl, inr}
use Rattle.std.proofs.lemmas.Bool.{false_from_ne_true, true≢false}
use Rattle.std.specs.List.{list_any, find}
use Rattle.std.specs.Ordering.{is_lt}
use Rattle.std.specs.Prelude.{◌&&◌, ◌||◌, cond, T, Some, None, filter, map}
use Rattle.std.specs.declared.cmp.Ordering.{Ordering}
use Rattle.std.specs.declared.cmp.Ordering.TheVariants.{Less}
use Rattle.folder_core.proofs.ListTests.{In}

pub none_left : (b : Bool) → (b && false) ≡ false
none_left true = refl
none_left false = refl

pub join : (a b : Bool) → T a → T b → T (a && b)
join true b p q = q
join false b p q = p

pub less_is : (r : Ordering) → r ≡ Less → T (is_lt r)
less_is r e = subst (λ r. T (is_lt r)) (sym e) tt

module _ {A : Type 0} where
  pub filter_in : (p q : A → Bool) (xs : List A) → ((x : A) → In x xs → p x ≡ q x) → filter p xs ≡ filter q xs
  filter_in p q [] same = refl
  filter_in p q (x ∷ xs) same = λ i. cond (same x (inl refl) i) (x ∷ filter_in p q xs (λ y j. same y (inr j)) i) (filter_in p q xs (λ y j. same y (inr j)) i)

  pub any_same : (p q : A → Bool) (xs : List A) → ((x : A) → In x xs → p x ≡ q x) → list_any p xs ≡ list_any q xs
  any_same p q [] same = refl
  any_same p q (x ∷ xs) same = λ i. same x (inl refl) i || any_same p q xs (λ y j. same y (inr j)) i

  pub find_same : (p q : A → Bool) (xs : List A) → ((x : A) → p x ≡ q x) → find p xs ≡ find q xs
  find_same p q xs same = λ i. find (λ x. same x i) xs

  pub filter_filter : (p q r : A → Bool) (xs : List A) → ((x : A) → r x ≡ (p x && q x)) → filter q (filter p xs) ≡ filter r xs
  filter_filter p q r [] same = refl
  filter_filter p q r (x ∷ xs) same =
      let rest : filter q (filter p xs) ≡ filter r xs = filter_filter p q r xs same in
      elim (p x) as (λ b. r x ≡ (b && q x) → filter q (cond b (x ∷ filter p xs) (filter p xs)) ≡ cond (r x) (x ∷ filter r xs) (filter r xs)) [
        | true ↦ λ e. λ i. cond (sym e i) (x ∷ rest i) (rest i)
        | false ↦ λ e. rest ∙ ap (λ b. cond b (x ∷ filter r xs) (filter r xs)) (sym e)
      ] (same x)

  pub filter_swap : (p q : A → Bool) (xs : List A) → filter p (filter q xs) ≡ filter q (filter p xs)
  filter_swap p q xs =
      filter_filter q p (λ x. q x && p x) xs (λ x. refl)
      ∙ sym (filter_filter p q (λ x. q x && p x) xs (λ x. swapped (q x) (p x)))
    where
      swapped : (a b : Bool) → (a && b) ≡ (b && a)
      swapped true true = refl
      swapped true false = refl
      swapped false true = refl
      swapped false false = refl

  pub any_filter : (p q : A → Bool) (xs : List A) → ((x : A) → q x ≡ true → p x ≡ true) → list_any q (filter p xs) ≡ list_any q xs
  any_filter p q [] only = refl
  any_filter p q (x ∷ xs) only =
      let rest : list_any q (filter p xs) ≡ list_any q xs = any_filter p q xs only in
      elim (p x) as (λ b. p x ≡ b → list_any q (cond b (x ∷ filter p xs) (filter p xs)) ≡ (q x || list_any q xs)) [
        | true ↦ λ e. ap (λ b. q x || b) rest
        | false ↦ λ e. rest ∙ ap (λ b. b || list_any q xs) (sym (false_from_ne_true (q x) (λ t. true≢false (sym (only x t) ∙ e))))
      ] refl

  pub find_filter : (p q : A → Bool) (xs : List A) → find p (filter q xs) ≡ find (λ x. q x && p x) xs
  find_filter p q [] = refl
  find_filter p q (x ∷ xs) =
      let rest : find p (filter q xs) ≡ find (λ x. q x && p x) xs = find_filter p q xs in
      elim (q x) as (λ b. find p (cond b (x ∷ filter q xs) (filter q xs)) ≡ cond (b && p x) (Some x) (find (λ x. q x && p x) xs)) [
        | true ↦ ap (cond (p x) (Some x)) rest
        | false ↦ rest
      ]

  pub none_found : (p : A → Bool) (xs : List A) → ((x : A) → In x xs → p x ≡ false) → find p xs ≡ None
  none_found p [] none = refl
  none_found p (x ∷ xs) none = λ i. cond (none x (inl refl) i) (Some x) (none_found p xs (λ y j. none y (inr j)) i)

module _ {A B : Type 0} (f : A → B) where
  pub filter_map : (p : B → Bool) (xs : List A) → filter p (map f xs) ≡ map f (filter (λ x. p (f x)) xs)
  filter_map p [] = refl
  filter_map p (x ∷ xs) =
      let rest : filter p (map f xs) ≡ map f (filter (λ x. p (f x)) xs) = filter_map p xs in
      elim (p (f x)) as (λ b. cond b (f x ∷ filter p (map f xs)) (filter p (map f xs)) ≡ map f (cond b (x ∷ filter (λ x. p (f x)) xs) (filter (λ x. p (f x)) xs))) [
        | true ↦ ap (λ ys. f x ∷ ys) rest
        | false ↦ rest
      ]

  pub any_map : (p : B → Bool) (xs : List A) → list_any p (map f xs) ≡ list_any (λ x. p (f x)) xs
  any_map p [] = refl
  any_map p (x ∷ xs) = ap (λ b. p (f x) || b) (any_map p xs)

  pub map_in : (g : A → B) (xs : List A) → ((x : A) → In x xs → f x ≡ g x) → map f xs ≡ map g xs
  map_in g [] same = refl
  map_in g (x ∷ xs) same = λ i. same x (inl refl) i ∷ map_in g xs (λ y j. same y (inr j)) i
