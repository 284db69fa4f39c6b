-- When a folder waits of whose names none is there (own rule).
use Rattle.std.specs.Prelude.{ℕ, ◌/◌, Bool, true, false, nat_lt, nat_le}

-- one that is doubted, where there is one name or more; another one, where there are ten or more
abbrev pub is_lost : ℕ → Bool → Bool
is_lost count true = nat_lt 0 count
is_lost count false = nat_lt 9 count

-- one that waits is back once a tenth of its names is missing at most
abbrev pub is_back : ℕ → ℕ → Bool
is_back missing all = nat_le missing (all / 10)
