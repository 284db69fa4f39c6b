-- Lists, as the proofs here use them.
use Rattle.std.proofs.Common.{◌≡◌, ◌+◌, Bool, true, false, List, [], ◌∷◌, ◌++◌, length, take, drop, refl, sym, ap, subst, ◌∙◌, ◌⊎◌, inl, inr, arith}
use Rattle.std.specs.Prelude.{cond, T, filter}
use Rattle.std.specs.List.{AllByRecursion, list_all, prefix_len}
use Rattle.std.specs.FinMap.Entries.{below_all, is_sorted}
use Rattle.std.specs.declared.cmp.Ordering.{Ordering}
use Rattle.std.specs.declared.cmp.Ordering.TheVariants.{Less}
use Rattle.std.proofs.lemmas.Bool.{and_parts, and_from}
use Rattle.folder_core.proofs.ListTests.{In, parts}
use Rattle.folder_core.proofs.ListFilters.{join, less_is}

module _ {A : Type 0} where
  pub in_parts : (xs ys : List A) (x : A) → In x (xs ++ ys) → In x xs ⊎ In x ys
  in_parts [] ys x i = inr i
  in_parts (y ∷ xs) ys x (inl s) = inl (inl s)
  in_parts (y ∷ xs) ys x (inr i) = more (in_parts xs ys x i)
    where
      more : In x xs ⊎ In x ys → ((x ≡ y) ⊎ In x xs) ⊎ In x ys
      more (inl j) = inl (inr j)
      more (inr j) = inr j

  pub all_at : (P : A → Type 0) (xs : List A) → AllByRecursion P xs → (x : A) → In x xs → P x
  all_at P [] all x i = absurd i
  all_at P (y ∷ xs) all x (inl s) = subst P (sym s) all.0
  all_at P (y ∷ xs) all x (inr i) = all_at P xs all.1 x i

  pub keeps_all : (p : A → Bool) (xs : List A) → list_all p xs ≡ true → filter p xs ≡ xs
  keeps_all p [] all = refl
  keeps_all p (x ∷ xs) all =
      ap (λ b. cond b (x ∷ filter p xs) (filter p xs)) (and_parts _ _ all).0
      ∙ ap (λ l. x ∷ l) (keeps_all p xs (and_parts _ _ all).1)

  pub keeps_none : (p : A → Bool) (xs : List A) → ((x : A) → In x xs → p x ≡ false) → filter p xs ≡ []
  keeps_none p [] none = refl
  keeps_none p (x ∷ xs) none =
      ap (λ b. cond b (x ∷ filter p xs) (filter p xs)) (none x (inl refl))
      ∙ keeps_none p xs (λ y i. none y (inr i))

  pub all_kept : (p q : A → Bool) (xs : List A) → list_all p xs ≡ true → list_all p (filter q xs) ≡ true
  all_kept p q [] all = refl
  all_kept p q (x ∷ xs) all =
      let rest : list_all p (filter q xs) ≡ true = all_kept p q xs (and_parts _ _ all).1 in
      elim (q x) as (λ b. list_all p (cond b (x ∷ filter q xs) (filter q xs)) ≡ true) [
        | true ↦ and_from _ _ (and_parts _ _ all).0 rest
        | false ↦ rest
      ]

  -- the first part of a list is the elements that pass, where the second has none
  pub prefix_is : (p : A → Bool) (xs ys : List A) → list_all p xs ≡ true → ((y : A) → In y ys → p y ≡ false) → prefix_len p (xs ++ ys) ≡ length xs
  prefix_is p [] [] all none = refl
  prefix_is p [] (y ∷ ys) all none = ap (λ b. cond b (1 + prefix_len p ys) 0) (none y (inl refl))
  prefix_is p (x ∷ xs) ys all none =
      ap (λ b. cond b (1 + prefix_len p (xs ++ ys)) 0) (and_parts _ _ all).0
      ∙ ap (λ k. 1 + k) (prefix_is p xs ys (and_parts _ _ all).1 none)
      ∙ (omega arith)

  pub front_of : (xs ys : List A) → take (length xs) (xs ++ ys) ≡ xs
  front_of [] [] = refl
  front_of [] (y ∷ ys) = refl
  front_of (x ∷ xs) ys = ap (λ l. x ∷ l) (front_of xs ys)

  pub back_of : (xs ys : List A) → drop (length xs) (xs ++ ys) ≡ ys
  back_of [] [] = refl
  back_of [] (y ∷ ys) = refl
  back_of (x ∷ xs) ys = back_of xs ys

module _ {K X : Type 0} (R : K → K → Ordering) where
  pub below_each : (k : K) (ys : List (K × X)) → ((y : K × X) → In y ys → R k y.0 ≡ Less) → T (below_all R k ys)
  below_each k [] less = tt
  below_each k (y ∷ ys) less = join _ _ (less_is _ (less y (inl refl))) (below_each k ys (λ z i. less z (inr i)))

  below_append : (k : K) (xs ys : List (K × X)) → T (below_all R k xs) → ((y : K × X) → In y ys → R k y.0 ≡ Less) → T (below_all R k (xs ++ ys))
  below_append k [] ys below less = below_each k ys less
  below_append k (x ∷ xs) ys below less = join _ _ (parts _ _ below).0 (below_append k xs ys (parts _ _ below).1 less)

  pub sorted_append : (xs ys : List (K × X)) → T (is_sorted R xs) → T (is_sorted R ys) → ((x y : K × X) → In x xs → In y ys → R x.0 y.0 ≡ Less) → T (is_sorted R (xs ++ ys))
  sorted_append [] ys s t less = t
  sorted_append (x ∷ xs) ys s t less =
      join _ _ (below_append x.0 xs ys (parts _ _ s).0 (λ y i. less x y (inl refl) i)) (sorted_append xs ys (parts _ _ s).1 t (λ z y i j. less z y (inr i) j))
