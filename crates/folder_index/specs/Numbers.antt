-- The numbers under which the blocks of local records are.
use Rattle.std.specs.Prelude.{ℕ, ◌+◌, ◌*◌, Bool, false, if◌then◌else◌, unwrap_or}
use Rattle.std.specs.Coded.{Coded, coded_bool, coded_ℕ}
use Rattle.std.specs.FinMap as map
use Rattle.std.specs.Ordering.{nat_cmp}

-- of some sequences whether theirs is the second number
abbrev pub Seconds : Type 0
Seconds = map.FinMap nat_cmp Bool

abbrev pub coded_seconds : Coded Seconds
coded_seconds = map.code coded_ℕ coded_bool

abbrev pub is_second : Seconds → ℕ → Bool
is_second m q = unwrap_or (map.get m q) false

-- the number of a sequence, and the one that isn't
abbrev pub number_of : Seconds → ℕ → ℕ
number_of m q = 2 * q + (if is_second m q then 1 else 0)

abbrev pub other_number_of : Seconds → ℕ → ℕ
other_number_of m q = 2 * q + (if is_second m q then 0 else 1)
