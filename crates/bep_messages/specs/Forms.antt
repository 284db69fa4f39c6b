-- The written form of a message: rising numbers, shortest varints, defaults left out
-- (Protocol Buffers, language guide for proto3, "Default Field Values").
use Rattle.std.specs.Prelude.{ℕ, ◌^◌, ◌<◌, ◌==◌, Bool, ℤ, List, [], ◌∷◌, ◌++◌, length, FitsSigned, if◌then◌else◌}
use Rattle.std.specs.Int.{w32, w64, cast_unsigned}
use Rattle.std.specs.List.{flat_map, AllByRecursion}
use Rattle.std.specs.Str.{IsUtf8}
use Rattle.bep_wire.specs.Written.{number_field, bytes_field}
use Rattle.bep_messages.specs.Tables.{Scalar, Int32, Int64, Uint32, Uint64, Enum, Boolean, Words, Octets, Digest, Table, End, One, Message, Texts, Messages, Val, Values}

-- a field of a varint, unless it is 0
unfoldable pub number_form : ℕ → ℕ → List ℕ
number_form number n = if n == 0 then [] else number_field number n

-- a field of bytes, unless there are none
unfoldable pub bytes_form : ℕ → List ℕ → List ℕ
bytes_form number [] = []
bytes_form number (b ∷ bytes) = bytes_field number (b ∷ bytes)

-- a field of bytes for each element, also for an empty one
unfoldable pub list_form : {A : Type 0} → ℕ → (A → List ℕ) → List A → List ℕ
list_form number form xs = flat_map (λ x. bytes_field number (form x)) xs

-- a negative number is written as the one of 64 bits that has its bits
abbrev pub unsigned64 : ℤ → ℕ
unsigned64 z = cast_unsigned w64 z

abbrev pub flag : Bool → ℕ
flag b = if b then 1 else 0

abbrev pub scalar_form : ℕ → (kind : Scalar) → Val kind → List ℕ
scalar_form number Int32 z = number_form number (unsigned64 z)
scalar_form number Int64 z = number_form number (unsigned64 z)
scalar_form number Uint32 n = number_form number n
scalar_form number Uint64 n = number_form number n
scalar_form number Enum z = number_form number (unsigned64 z)
scalar_form number Boolean b = number_form number (flag b)
scalar_form number Words bytes = bytes_form number bytes
scalar_form number Octets bytes = bytes_form number bytes
scalar_form number Digest bytes = bytes_form number bytes

-- a message in a message is left out if its form is empty
abbrev pub form : (table : Table) → Values table → List ℕ
form End v = []
form (One number kind rows) v = scalar_form number kind v.0 ++ form rows v.1
form (Message number inner rows) v = bytes_form number (form inner v.0) ++ form rows v.1
form (Texts number rows) v = list_form number (λ t. t) v.0 ++ form rows v.1
form (Messages number inner rows) v = list_form number (form inner) v.0 ++ form rows v.1

-- ---- what the values of a program are, where clauses see numbers and lists alone

-- bytes whose number has a varint
abbrev pub IsShort : List ℕ → Type 0
IsShort bytes = length bytes < 2 ^ 64

abbrev pub IsText : List ℕ → Type 0
IsText bytes = IsUtf8 bytes × IsShort bytes

abbrev pub ScalarFits : (kind : Scalar) → Val kind → Type 0
ScalarFits Int32 z = FitsSigned w32 z
ScalarFits Int64 z = FitsSigned w64 z
ScalarFits Uint32 n = n < 2 ^ 32
ScalarFits Uint64 n = n < 2 ^ 64
ScalarFits Enum z = FitsSigned w32 z
ScalarFits Boolean b = Unit {0}
ScalarFits Words bytes = IsText bytes
ScalarFits Octets bytes = IsShort bytes
ScalarFits Digest bytes = IsShort bytes

abbrev pub Fits : (table : Table) → Values table → Type 0
Fits End v = Unit {0}
Fits (One number kind rows) v = ScalarFits kind v.0 × Fits rows v.1
Fits (Message number inner rows) v = (Fits inner v.0 × IsShort (form inner v.0)) × Fits rows v.1
Fits (Texts number rows) v = AllByRecursion IsText v.0 × Fits rows v.1
Fits (Messages number inner rows) v = AllByRecursion (λ m. Fits inner m × IsShort (form inner m)) v.0 × Fits rows v.1
