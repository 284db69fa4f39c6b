-- Lists without repeats, element by element.
use Rattle.std.proofs.Common.{◌≡◌, ◌⊎◌, List, [], ◌∷◌, ◌++◌, inl, inr, refl, subst, sym}
use Rattle.folder_core.proofs.ListTests.{In}
use Rattle.folder_core.proofs.ReadLists.{Apart}

module _ {A : Type 0} where
  pub in-front : (xs ys : List A) (x : A) → In x xs → In x (xs ++ ys)
  in-front [] ys x i = absurd i
  in-front (y ∷ xs) ys x (inl e) = inl e
  in-front (y ∷ xs) ys x (inr i) = inr (in-front xs ys x i)

  pub in-last : (xs ys : List A) (x : A) → In x (xs ++ x ∷ ys)
  in-last [] ys x = inl refl
  in-last (y ∷ xs) ys x = inr (in-last xs ys x)

  pub of-pushed : (xs : List A) (x y : A) → In y (xs ++ x ∷ []) → In y xs ⊎ (y ≡ x)
  of-pushed [] x y (inl e) = inr e
  of-pushed [] x y (inr i) = absurd i
  of-pushed (z ∷ xs) x y (inl e) = inl (inl e)
  of-pushed (z ∷ xs) x y (inr i) = elim (of-pushed xs x y i) [ inl j ↦ inl (inr j) | inr e ↦ inr e ]

  pub push-apart : (xs : List A) (x : A) → Apart xs → ¬ (In x xs) → Apart (xs ++ x ∷ [])
  push-apart [] x apart new = (λ i. i, tt)
  push-apart (y ∷ xs) x apart new = (
    λ i. elim (of-pushed xs x y i) [ inl j ↦ apart.0 j | inr e ↦ new (inl (sym e)) ],
    push-apart xs x apart.1 (λ i. new (inr i)),
  )

  pub not-apart : (xs ys : List A) (x : A) → In x xs → ¬ (Apart (xs ++ x ∷ ys))
  not-apart [] ys x i apart = i
  not-apart (y ∷ xs) ys x (inl e) apart = apart.0 (same e (in-last xs ys x))
    where
      same : x ≡ y → In x (xs ++ x ∷ ys) → In y (xs ++ x ∷ ys)
      same e i = subst (λ z. In z (xs ++ x ∷ ys)) e i
  not-apart (y ∷ xs) ys x (inr i) apart = not-apart xs ys x i apart.1
