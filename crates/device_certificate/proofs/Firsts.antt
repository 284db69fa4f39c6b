-- A list and its first element that passes a test.
use Rattle.std.proofs.Common.{◌≡◌, ℕ, ◌+◌, ◌≤◌, Bool, true, false, cond, List, [], ◌∷◌, ◌++◌, ap, sym, refl, ◌∙◌, ◌||◌, arith}
use Rattle.std.specs.List.{list_any, after_first, before_first, count_by}
use Rattle.std.proofs.lemmas.List.Sums.{sum_by-cons, sum_by-append}
use Rattle.std.proofs.lemmas.Bool.{false≢true}

module _ {X : Type 0} (p : X → Bool) where
  pub any_no : (x : X) (xs : List X) → p x ≡ false → list_any p (x ∷ xs) ≡ list_any p xs
  any_no x xs h = ap (λ b. b || list_any p xs) h

  pub any_yes : (x : X) (xs : List X) → p x ≡ true → list_any p (x ∷ xs) ≡ true
  any_yes x xs h = ap (λ b. b || list_any p xs) h

  pub after_no : (x : X) (xs : List X) → p x ≡ false → after_first p (x ∷ xs) ≡ after_first p xs
  after_no x xs h = grind (arith, h)

  pub after_yes : (x : X) (xs : List X) → p x ≡ true → after_first p (x ∷ xs) ≡ xs
  after_yes x xs h = grind (arith, h)

  pub before_no : (x : X) (xs : List X) → p x ≡ false → before_first p (x ∷ xs) ≡ x ∷ before_first p xs
  before_no x xs h = grind (arith, h)

  pub before_yes : (x : X) (xs : List X) → p x ≡ true → before_first p (x ∷ xs) ≡ []
  before_yes x xs h = grind (arith, h)

  count_cons : (x : X) (xs : List X) → count_by p (x ∷ xs) ≡ cond (p x) 1 0 + count_by p xs
  count_cons x xs = sum_by-cons (λ y. cond (p y) 1 0) x xs

  count_none_by : (b : Bool) (x : X) (xs : List X) → p x ≡ b → (list_any p xs ≡ false → count_by p xs ≡ 0) → list_any p (x ∷ xs) ≡ false → count_by p (x ∷ xs) ≡ 0
  count_none_by true x xs is ih h = absurd (false≢true (sym h ∙ any_yes x xs is))
  count_none_by false x xs is ih h = omega (arith, count_cons x xs, ap (λ b. let n : ℕ = cond b 1 0 in n) is, ih (sym (any_no x xs is) ∙ h))

  pub count_none : (xs : List X) → list_any p xs ≡ false → count_by p xs ≡ 0
  count_none [] h = refl
  count_none (x ∷ xs) h = count_none_by (p x) x xs refl (count_none xs) h

  count_some_by : (b : Bool) (x : X) (xs : List X) → p x ≡ b → (list_any p xs ≡ true → count_by p xs ≡ 1 + count_by p (after_first p xs))
      → list_any p (x ∷ xs) ≡ true → count_by p (x ∷ xs) ≡ 1 + count_by p (after_first p (x ∷ xs))
  count_some_by true x xs is ih h = omega (arith, count_cons x xs, ap (λ b. let n : ℕ = cond b 1 0 in n) is, ap (λ l. count_by p l) (after_yes x xs is))
  count_some_by false x xs is ih h = omega (arith, count_cons x xs, ap (λ b. let n : ℕ = cond b 1 0 in n) is, ap (λ l. count_by p l) (after_no x xs is), ih (sym (any_no x xs is) ∙ h))

  pub count_some : (xs : List X) → list_any p xs ≡ true → count_by p xs ≡ 1 + count_by p (after_first p xs)
  count_some [] h = absurd (false≢true h)
  count_some (x ∷ xs) h = count_some_by (p x) x xs refl (count_some xs) h

  -- an element that passes, and what stands after it
  pub count_two : (xs ys : List X) → list_any p xs ≡ true → ys ≡ after_first p xs → list_any p ys ≡ true → 2 ≤ count_by p xs
  count_two xs ys some is more = omega (arith, count_some xs some, ap (λ l. count_by p l) is, count_some ys more)

  pub count_one : (xs ys : List X) → list_any p xs ≡ true → ys ≡ after_first p xs → list_any p ys ≡ false → count_by p xs ≡ 1
  count_one xs ys some is none = omega (arith, count_some xs some, ap (λ l. count_by p l) is, count_none ys none)

  none_by_count : (b : Bool) (xs : List X) → list_any p xs ≡ b → count_by p xs ≡ 0 → list_any p xs ≡ false
  none_by_count true xs is none = absurd (omega (arith, count_some xs is))
  none_by_count false xs is none = is

  pub none_of_count : (xs : List X) → count_by p xs ≡ 0 → list_any p xs ≡ false
  none_of_count xs none = none_by_count (list_any p xs) xs refl none

  pub count_append : (xs ys : List X) → count_by p (xs ++ ys) ≡ count_by p xs + count_by p ys
  count_append xs ys = sum_by-append (λ y. cond (p y) 1 0) xs ys

  pub count_yes : (x : X) (xs : List X) → p x ≡ true → count_by p (x ∷ xs) ≡ 1 + count_by p xs
  count_yes x xs is = omega (arith, count_cons x xs, ap (λ b. let n : ℕ = cond b 1 0 in n) is)

  pub count_no : (x : X) (xs : List X) → p x ≡ false → count_by p (x ∷ xs) ≡ count_by p xs
  count_no x xs is = omega (arith, count_cons x xs, ap (λ b. let n : ℕ = cond b 1 0 in n) is)

  -- a list around its first element that passes
  after_at_by : (b : Bool) (z : X) (xs : List X) (x : X) (ys : List X) → p z ≡ b → (list_any p xs ≡ false → after_first p (xs ++ x ∷ ys) ≡ ys)
      → list_any p (z ∷ xs) ≡ false → after_first p (z ∷ (xs ++ x ∷ ys)) ≡ ys
  after_at_by true z xs x ys is more none = absurd (false≢true (sym none ∙ any_yes z xs is))
  after_at_by false z xs x ys is more none = after_no z (xs ++ x ∷ ys) is ∙ more (sym (any_no z xs is) ∙ none)

  pub after_at : (xs : List X) (x : X) (ys : List X) → list_any p xs ≡ false → p x ≡ true → after_first p (xs ++ x ∷ ys) ≡ ys
  after_at [] x ys none is = after_yes x ys is
  after_at (z ∷ xs) x ys none is = after_at_by (p z) z xs x ys refl (λ n. after_at xs x ys n is) none

  before_at_by : (b : Bool) (z : X) (xs : List X) (x : X) (ys : List X) → p z ≡ b → (list_any p xs ≡ false → before_first p (xs ++ x ∷ ys) ≡ xs)
      → list_any p (z ∷ xs) ≡ false → before_first p (z ∷ (xs ++ x ∷ ys)) ≡ z ∷ xs
  before_at_by true z xs x ys is more none = absurd (false≢true (sym none ∙ any_yes z xs is))
  before_at_by false z xs x ys is more none = before_no z (xs ++ x ∷ ys) is ∙ ap (λ l. z ∷ l) (more (sym (any_no z xs is) ∙ none))

  pub before_at : (xs : List X) (x : X) (ys : List X) → list_any p xs ≡ false → p x ≡ true → before_first p (xs ++ x ∷ ys) ≡ xs
  before_at [] x ys none is = before_yes x ys is
  before_at (z ∷ xs) x ys none is = before_at_by (p z) z xs x ys refl (λ n. before_at xs x ys n is) none

  any_at_by : (b : Bool) (z : X) (xs : List X) → p z ≡ b → list_any p xs ≡ true → list_any p (z ∷ xs) ≡ true
  any_at_by true z xs is some = any_yes z xs is
  any_at_by false z xs is some = any_no z xs is ∙ some

  pub any_at : (xs : List X) (x : X) (ys : List X) → p x ≡ true → list_any p (xs ++ x ∷ ys) ≡ true
  any_at [] x ys is = any_yes x ys is
  any_at (z ∷ xs) x ys is = any_at_by (p z) z (xs ++ x ∷ ys) refl (any_at xs x ys is)
