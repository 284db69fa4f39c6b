-- Version vectors by their counters (Understanding Synchronization; Block Exchange Protocol v1, `Vector`).
use Rattle.std.specs.Prelude.{◌≡◌, ◌≢◌, ℕ, ◌+◌, ◌<◌, ◌≤◌, max, Bool, ◌&&◌, nat_lt, ◌⊎◌, List, All, Contains, IsTrue, unwrap_or}
use Rattle.std.specs.List.{list_all}
use Rattle.std.specs.Ordering.{nat_cmp}
use Rattle.std.specs.FinMap.{find, is_sorted}
use Rattle.sync_version.specs.declared.relation.Relation.{Relation}
use Rattle.sync_version.specs.declared.relation.Relation.TheVariants as relation

-- how often each device changed a file: pairs of a device's short id and its counter
abbrev pub Vector : Type 0
Vector = List (ℕ × ℕ)

-- ids strictly rise and no counter is 0, so that each vector is written in one way
abbrev pub is_canonical : Vector → Bool
is_canonical v = is_sorted nat_cmp v && list_all (λ c. nat_lt 0 c.1) v

abbrev pub IsCanonical : Vector → Type 0
IsCanonical v = IsTrue (is_canonical v)

-- the counter at an id, 0 where it is absent
abbrev pub counter : Vector → ℕ → ℕ
counter v id = unwrap_or (find nat_cmp id v) 0

-- no counter of a is smaller than b's
abbrev pub Covers : Vector → Vector → Type 0
Covers a b = (id : ℕ) → counter b id ≤ counter a id

-- some counter of a is greater than b's
abbrev pub Exceeds : Vector → Vector → Type 0
Exceeds a b = (id : ℕ) × (counter b id < counter a id)

-- no counter of a is smaller than b's, and one is greater
pub record Dominates (a b : Vector) : Type 0 where
  pub covers : Covers a b
  pub exceeds : Exceeds a b

-- one counter of a is greater than b's, and one of b is greater than a's
pub record AreConcurrent (a b : Vector) : Type 0 where
  pub first : Exceeds a b
  pub second : Exceeds b a

-- what each relation says of two vectors
abbrev pub IsRelation : Relation → Vector → Vector → Type 0
IsRelation relation.Equal a b = a ≡ b
IsRelation relation.Dominates a b = Dominates a b
IsRelation relation.Dominated a b = Dominates b a
IsRelation relation.Concurrent a b = AreConcurrent a b

-- v has the greater of each counter of a and b
pub record IsMergeOf (a b v : Vector) : Type 0 where
  pub canonical : IsCanonical v
  pub counters : (id : ℕ) → counter v id ≡ max (counter a id) (counter b id)

-- the device of this id changed the file at this moment: its counter rises, and goes by the clock (own rule)
pub record IsRaiseOf (old : Vector) (id moment : ℕ) (new : Vector) : Type 0 where
  pub canonical : IsCanonical new
  pub here : counter new id ≡ max (counter old id + 1) moment
  pub elsewhere : (other : ℕ) → other ≢ id → counter new other ≡ counter old other

-- v has at each id the greatest of the pairs' values with that id, 0 where there is none (own rule): no pair
-- is above its counter, and each counter is a pair's or 0
pub record IsGatheredFrom (pairs : List (ℕ × ℕ)) (v : Vector) : Type 0 where
  pub canonical : IsCanonical v
  pub bound : All (λ pair. pair.1 ≤ counter v pair.0) pairs
  pub attained : (id : ℕ) → (counter v id ≡ 0) ⊎ Contains pairs (id, counter v id)
