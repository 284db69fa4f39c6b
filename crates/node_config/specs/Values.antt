-- The value of a key of a table, or what is wrong with it.
use Rattle.std.specs.Prelude.{◌≡◌, ℕ, ℤ, List, ◌&&◌, ◌⊎◌, if◌then◌else◌, int_le, Option, Some, None, Result, Ok, Err, MatchResult}
use Rattle.std.specs.Option.{ok_or}
use Rattle.device_text.specs.Found.{device_of}
use Rattle.device_text.specs.declared.fault.DeviceFault.{DeviceFault}
use Rattle.device_text.specs.declared.fault.DeviceFault.TheVariants.{Length, Character, Check}
use Rattle.toml.specs.Data.{Data, Items, no_items, Members, get_member, as_str, as_integer, as_array, as_table}
use Rattle.node_config.specs.FolderNumbers.{key_of, no_number, range_of, word_of}
use Rattle.node_config.specs.Keys.{key_name}
use Rattle.node_config.specs.declared.fault.ConfigFault.{ConfigFault}
use Rattle.node_config.specs.declared.fault.ConfigFault.TheVariants.{BadKey, OutOfMemory}
use Rattle.node_config.specs.declared.folder_numbers.FolderNumber.{FolderNumber}
use Rattle.node_config.specs.declared.key.Key.{Key}
use Rattle.node_config.specs.declared.key.Key.TheVariants.{Device}
use Rattle.node_config.specs.declared.key.TablePlace.{TablePlace}
use Rattle.node_config.specs.declared.key.TablePlace.TheVariants.{Node}
use Rattle.node_config.specs.declared.key.Problem.{Problem}
use Rattle.node_config.specs.declared.key.Problem.TheVariants.{Absent, NotString, NotTables, NotStrings, NotDevice, NotDeviceCharacter, Mistyped, OutOfRange}

-- the next step, where the one before found a value
infixl 10 ◌>>=◌
abbrev pub ◌>>=◌ : {A B : Type 0} → Result A ConfigFault → (A → Result B ConfigFault) → Result B ConfigFault
Ok x >>= f = f x
Err e >>= f = Err e

-- a function that does not allocate returns this value, seen through `view`, or this fault
abbrev pub Finds : {A B : Type 0} → (B → A) → Result A ConfigFault → Result B ConfigFault → Type 0
Finds view value result = MatchResult result (λ x. value ≡ Ok (view x)) (λ fault. value ≡ Err fault)

-- a function returns this value or this fault, unless it is out of memory
abbrev pub Reads : {A : Type 0} → Result A ConfigFault → Result A ConfigFault → Type 0
Reads value result = MatchResult result (λ x. value ≡ Ok x) (λ fault. (fault ≡ OutOfMemory) ⊎ (value ≡ Err fault))

-- the value of a required key
abbrev pub required_at : Members → TablePlace → Key → Result Data ConfigFault
required_at table place key = ok_or (get_member (key_name key) table) (BadKey place key Absent)

-- the string that is the value of a key
abbrev pub text_of : TablePlace → Key → Data → Result (List ℕ) ConfigFault
text_of place key value = ok_or (as_str value) (BadKey place key NotString)

abbrev pub text_at : Members → TablePlace → Key → Result (List ℕ) ConfigFault
text_at table place key = required_at table place key >>= text_of place key

-- the array that is the value of a required key
abbrev pub array_at : Members → TablePlace → Key → Result Items ConfigFault
array_at table place key = required_at table place key >>= λ value. ok_or (as_array value) (BadKey place key NotStrings)

-- the value for which a word stands, or the integer where there is no word
abbrev pub word_or_integer : FolderNumber → Option (List ℕ) → Option ℤ → Option ℤ
word_or_integer number (Some word) integer = word_of number word
word_or_integer number None integer = integer

abbrev pub integer_of : FolderNumber → Data → Option ℤ
integer_of number value = word_or_integer number (as_str value) (as_integer value)

-- the number that is the value of its key, if it is in the range
abbrev pub number_of_value : TablePlace → FolderNumber → Data → Result ℤ ConfigFault
number_of_value place number value = do
  found ← ok_or (integer_of number value) (BadKey place (key_of number) (no_number number))
  if int_le (range_of number).low found && int_le found (range_of number).high then Ok found else Err (BadKey place (key_of number) (OutOfRange (range_of number).low (range_of number).high))

abbrev pub number_or_default : TablePlace → FolderNumber → Option Data → Result ℤ ConfigFault
number_or_default place number None = Ok (range_of number).default
number_or_default place number (Some value) = number_of_value place number value

-- a number of a folder
abbrev pub number_at : Members → TablePlace → FolderNumber → Result ℤ ConfigFault
number_at table place number = number_or_default place number (get_member (key_name (key_of number)) table)

-- what is wrong with a text that is no identity
abbrev pub no_device : DeviceFault → Problem
no_device Length = NotDevice
no_device Character = NotDeviceCharacter
no_device (Check group) = Mistyped group

abbrev pub or_no_device : TablePlace → Result (List ℕ) DeviceFault → Result (List ℕ) ConfigFault
or_no_device place (Ok device) = Ok device
or_no_device place (Err fault) = Err (BadKey place Device (no_device fault))

-- the identity of a device, in hexadecimal digits or as Syncthing shows it
abbrev pub device_at : Members → TablePlace → Result (List ℕ) ConfigFault
device_at table place = text_at table place Device >>= λ text. or_no_device place (device_of text)

-- the tables that are the value of a key, which may be absent
abbrev pub tables_of : Key → Option Data → Result Items ConfigFault
tables_of key None = Ok no_items
tables_of key (Some value) = ok_or (as_array value) (BadKey Node key NotTables)

abbrev pub table_of : Key → Data → Result Members ConfigFault
table_of key value = ok_or (as_table value) (BadKey Node key NotTables)
