-- The device of a text, or why it has none, as one value.
use Rattle.std.specs.Prelude.{ℕ, ◌+◌, ◌-◌, ◌*◌, ◌==◌, nat_le, Bool, not, ◌&&◌, if◌then◌else◌, List, map, take, drop, length, slice_index, Result, Ok, Err}
use Rattle.std.specs.List.{list_any}
use Rattle.std.specs.Result.{result_or}
use Rattle.hex.specs.Hex.{decode_of}
use Rattle.sync_record.specs.Devices.{Identity}
use Rattle.device_text.specs.declared.fault.DeviceFault.{DeviceFault}
use Rattle.device_text.specs.declared.fault.DeviceFault.TheVariants.{Length, Character, Check}
use Rattle.device_text.specs.Base32.{identity_of}
use Rattle.device_text.specs.Checks.{check_value}
use Rattle.device_text.specs.Read.{characters, as_read, without_checks}

-- the value of a character of the alphabet: 0 to 25 of `A` to `Z` (65 to 90), and 26 to 31 of `2` to `7` (50 to 55); 32 of any other
abbrev pub alphabet_value : ℕ → ℕ
alphabet_value c =
    if nat_le 65 c && nat_le c 90 then c - 65
    else if nat_le 50 c && nat_le c 55 then c - 24
    else 32

-- the value for which a character stands; 32 where it stands for none
abbrev pub value_of : ℕ → ℕ
value_of c = alphabet_value (as_read c)

-- the values of a text's characters
abbrev pub values_of : List ℕ → List ℕ
values_of text = map value_of (characters text)

-- whether the nth group of 14, counted from 0, ends in its check character
abbrev pub is_checked : List ℕ → ℕ → Bool
is_checked values n = slice_index values (14 * n + 13) == check_value (take 13 (drop (14 * n) values))

-- the identity of 56 values, or the first group, counted from 1, that does not end in its check character
abbrev pub checked : List ℕ → Result Identity DeviceFault
checked values =
    if not (is_checked values 0) then Err (Check 1)
    else if not (is_checked values 1) then Err (Check 2)
    else if not (is_checked values 2) then Err (Check 3)
    else if not (is_checked values 3) then Err (Check 4)
    else Ok (identity_of (without_checks values))

-- the device of a text in Syncthing's form, or the first fault of `Length`, `Character` and `Check` that it has
abbrev pub syncthing_device : List ℕ → Result Identity DeviceFault
syncthing_device text =
    if not (length (characters text) == 56) then Err Length
    else if list_any (λ value. value == 32) (values_of text) then Err Character
    else checked (values_of text)

-- the identity that 64 hexadecimal digits spell; of any other text what Syncthing's form gives
abbrev pub device_of : List ℕ → Result Identity DeviceFault
device_of text =
    if length text == 64 then result_or (decode_of text) (syncthing_device text)
    else syncthing_device text
