-- The base32 of an identity (RFC 4648, section 6): its 256 bits, and four zero bits behind them, are 52 values of five bits.
use Rattle.std.specs.Prelude.{ℕ, zero, suc, ◌*◌, ◌/◌, ◌%◌, ◌<◌, List, [], ◌∷◌, ◌++◌, slice_index}
use Rattle.std.specs.Int.Digits.{number_from_digits}
use Rattle.sync_record.specs.Devices.{Identity}

-- so many digits of a number in a base, the lowest last
unfoldable pub digits : ℕ → ℕ → ℕ → List ℕ
digits base zero number = []
digits base (suc count) number = digits base count (number / base) ++ number % base ∷ []

abbrev pub base32_values : Identity → List ℕ
base32_values identity = digits 32 52 (number_from_digits 256 identity * 16)

-- the identity whose bits the first 256 of 52 values are
abbrev pub identity_of : List ℕ → Identity
identity_of values = digits 256 32 (number_from_digits 32 values / 16)

-- each is of five bits
abbrev pub AreBase32 : List ℕ → Type 0
AreBase32 values = (i : ℕ) → slice_index values i < 32
