-- The first element of a list of which something holds.
use Rattle.std.specs.Prelude.{◌≡◌, ℕ, ◌<◌, List, Some, slice_get}

-- it holds of the element at the place, and of none before it
pub record IsFirst {A : Type 0} (P : A → Type 0) (xs : List A) (place : ℕ) (x : A) : Type 0 where
  pub at : slice_get xs place ≡ Some x
  pub is : P x
  pub first : (i : ℕ) (y : A) → i < place → slice_get xs i ≡ Some y → ¬ (P y)

-- the number stands there first
abbrev pub IsFirstPlace : List ℕ → ℕ → ℕ → Type 0
IsFirstPlace xs place x = IsFirst (λ y. y ≡ x) xs place x
