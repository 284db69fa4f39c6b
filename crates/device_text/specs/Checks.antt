-- The check character of a group of 13 (Syncthing, "Device IDs", "Check Digits": a variant of Luhn's algorithm mod 32).
use Rattle.std.specs.Prelude.{ℕ, ◌+◌, ◌-◌, ◌*◌, ◌/◌, ◌%◌, List, [], ◌∷◌}

-- the sum of a number's two digits in base 32
abbrev pub digit_sum : ℕ → ℕ
digit_sum number = number / 32 + number % 32

-- the values count once and twice in turn, each by its digits' sum; the first one by the factor
unfoldable pub luhn_sum : ℕ → List ℕ → ℕ
luhn_sum factor [] = 0
luhn_sum factor (value ∷ rest) = digit_sum (factor * value) + luhn_sum (3 - factor) rest

-- what is missing to a multiple of 32
abbrev pub check_value : List ℕ → ℕ
check_value values = (32 - luhn_sum 1 values % 32) % 32
