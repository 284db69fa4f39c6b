-- The ids of the Requests that wait for their Response (own rule).
use Rattle.std.specs.Prelude.{◌≡◌, ℕ, zero, suc, ◌/◌, ◌%◌, ◌<◌, ℤ, pos, negsuc, Bool, true, false, not, ◌&&◌, List, ◌∷◌, length, nat_lt, slice_index}
use Rattle.std.specs.declared.cmp.Ordering.TheVariants.{Less}
use Rattle.std.specs.List.{AllByRecursion, list_any}
use Rattle.std.specs.Int.{bit_at}
use Rattle.std.specs.Ordering.{int_cmp}
use Rattle.std.specs.BTreeMap.{is_at}
use Rattle.std.specs.BTreeSet.{insert_key}
use Rattle.std.specs.Set.{remove_key}

-- the most that are open at one time
abbrev pub max_asks : ℕ
max_asks = 1024

-- whether an id is one of these
abbrev pub is_open : List ℤ → ℤ → Bool
is_open ids id = list_any (is_at (int_cmp id)) ids

-- these and one more, in order; these without one
abbrev pub opened : List ℤ → ℤ → List ℤ
opened ids id = insert_key int_cmp ids id

abbrev pub closed : List ℤ → ℤ → List ℤ
closed ids id = remove_key (is_at (int_cmp id)) ids

abbrev pub is_positive : ℤ → Bool
is_positive (pos zero) = false
is_positive (pos (suc n)) = true
is_positive (negsuc n) = false

-- the least positive id that isn't open
abbrev pub IsLeastFree : List ℤ → ℤ → Type 0
IsLeastFree ids (pos n) = (0 < n) × (is_open ids (pos n) ≡ false) × ((k : ℕ) → 0 < k → k < n → is_open ids (pos k) ≡ true)
IsLeastFree ids (negsuc n) = ⊥

-- an id that another may choose
abbrev pub can_book : List ℤ → ℤ → Bool
can_book ids id = (is_positive id && not (is_open ids id)) && nat_lt (length ids) max_asks

-- ---- the first ids by bits

-- a bit of some words of 64
abbrev pub bit : List ℕ → ℕ → ℕ
bit words k = bit_at (slice_index words (k / 64)) (k % 64)

abbrev pub is_one : ℕ → Bool
is_one zero = false
is_one (suc n) = true

-- an id before others, where its bit is 1
abbrev pub with_id : ℕ → ℤ → List ℤ → List ℤ
with_id zero id ids = ids
with_id (suc n) id ids = id ∷ ids

-- those of the next n ids after k whose bits are 1, before others
unfoldable pub ids_from : List ℕ → ℕ → ℕ → List ℤ → List ℤ
ids_from words k zero ids = ids
ids_from words k (suc n) ids = with_id (bit words k) (pos (suc k)) (ids_from words (suc k) n ids)

-- those of the first ids whose bits are 1, and then those above
unfoldable pub ids_of : List ℕ → List ℤ → List ℤ
ids_of words above = ids_from words 0 1024 above

-- the other ids are above the first, and this is how many there are of both
abbrev pub IsCounted : List ℕ → List ℤ → ℕ → Type 0
IsCounted words above len = (AllByRecursion (λ id. int_cmp (pos 1024) id ≡ Less) above) × (len ≡ length (ids_of words above))
