-- The texts that are read as a device's identity: 64 hexadecimal digits, or Syncthing's form.
use Rattle.std.specs.Prelude.{◌≡◌, ◌≢◌, ◌⊎◌, ℕ, ◌+◌, ◌-◌, ◌*◌, ◌<◌, nat_eq, nat_le, Bool, not, ◌&&◌, ◌||◌, if◌then◌else◌, List, ◌++◌, map, take, drop, length, slice_index, Ok}
use Rattle.std.specs.List.{filter}
use Rattle.hex.specs.Hex.{decode_of}
use Rattle.sync_names.specs.Base32.{base32_digit}
use Rattle.sync_record.specs.Devices.{Identity}
use Rattle.device_text.specs.declared.fault.DeviceFault.{DeviceFault}
use Rattle.device_text.specs.declared.fault.DeviceFault.TheVariants.{Length, Character, Check}
use Rattle.device_text.specs.Base32.{identity_of, AreBase32}
use Rattle.device_text.specs.Checks.{check_value}

abbrev pub IsHexText : List ℕ → Identity → Type 0
IsHexText text identity = (length text ≡ 64) × (decode_of text ≡ Ok identity)

-- a dash (45) or a blank (32)
abbrev pub is_separator : ℕ → Bool
is_separator c = nat_eq c 45 || nat_eq c 32

-- a text without its dashes and blanks
abbrev pub characters : List ℕ → List ℕ
characters text = filter (λ c. not (is_separator c)) text

-- a small letter is read as its capital, and 0, 1 and 8 as the letters O, I and B
abbrev pub as_read : ℕ → ℕ
as_read c =
    if nat_le 97 c && nat_le c 122 then c - 32
    else if nat_eq c 48 then 79
    else if nat_eq c 49 then 73
    else if nat_eq c 56 then 66
    else c

-- the character stands for the value
abbrev pub IsValueOf : ℕ → ℕ → Type 0
IsValueOf c value = (value < 32) × (as_read c ≡ base32_digit value)

-- the characters are 56, and stand for the values
pub record AreRead (text values : List ℕ) : Type 0 where
  pub count : length values ≡ 56
  pub small : AreBase32 values
  pub same : map as_read (characters text) ≡ map base32_digit values

-- the nth group of 14, counted from 0, ends in its check character
abbrev pub IsChecked : List ℕ → ℕ → Type 0
IsChecked values n = slice_index values (14 * n + 13) ≡ check_value (take 13 (drop (14 * n) values))

-- the 52 others
abbrev pub without_checks : List ℕ → List ℕ
without_checks values = take 13 values ++ (take 13 (drop 14 values) ++ (take 13 (drop 28 values) ++ take 13 (drop 42 values)))

-- Syncthing's form: 56 characters, of which each group of 14 ends in its check character, and the identity is that of the others
abbrev pub IsSyncthingText : List ℕ → Identity → Type 0
IsSyncthingText text identity = (values : List ℕ) × AreRead text values × ((n : ℕ) → n < 4 → IsChecked values n) × (identity ≡ identity_of (without_checks values))

abbrev pub IsDeviceText : List ℕ → Identity → Type 0
IsDeviceText text identity = IsHexText text identity ⊎ IsSyncthingText text identity

-- Why a text is in neither form: the number of its characters first, then the characters, then the checks
abbrev pub HasFault : List ℕ → DeviceFault → Type 0
HasFault text Length = length (characters text) ≢ 56
HasFault text Character = (length (characters text) ≡ 56)
    × ((k : ℕ) × (k < 56) × ((value : ℕ) → IsValueOf (slice_index (characters text) k) value → ⊥))
HasFault text (Check group) = (values : List ℕ) × AreRead text values
    × (n : ℕ) × (group ≡ n + 1) × (n < 4) × ((m : ℕ) → m < n → IsChecked values m) × (IsChecked values n → ⊥)
