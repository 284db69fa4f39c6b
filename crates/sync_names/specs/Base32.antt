-- The first seven characters of a number's base32 text (RFC 4648, section 6), the number as eight bytes, big-endian.
use Rattle.std.specs.Prelude.{ℕ, ◌+◌, ◌-◌, ◌*◌, ◌/◌, ◌%◌, ◌^◌, nat_lt, List, [], ◌∷◌, map, if◌then◌else◌}

-- the alphabet: `A` to `Z` for 0 to 25, and `2` to `7` for 26 to 31
abbrev pub base32_digit : ℕ → ℕ
base32_digit value = if nat_lt value 26 then 65 + value else 50 + (value - 26)

-- the character at the place i, of five bits: the first five of 64 are the most significant
abbrev pub base32_character : ℕ → ℕ → ℕ
base32_character number i = base32_digit (number / 2 ^ (59 - 5 * i) % 32)

abbrev pub short_base32 : ℕ → List ℕ
short_base32 number = map (base32_character number) (0 ∷ 1 ∷ 2 ∷ 3 ∷ 4 ∷ 5 ∷ 6 ∷ [])
