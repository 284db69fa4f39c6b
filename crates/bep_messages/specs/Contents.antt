-- What the fields with one number hold (Protocol Buffers encoding, "Last One Wins" and "Submessages";
-- language guide for proto3, "Scalar Value Types").
use Rattle.std.specs.Prelude.{ℕ, ◌%◌, ◌^◌, ◌==◌, Bool, false, not, ℤ, pos, List, [], ◌∷◌, ◌++◌, map, if◌then◌else◌}
use Rattle.std.specs.Int.{w32, w64, cast_signed}
use Rattle.bep_wire.specs.Content.{Content, Number, Eight, Bytes, Four, Item}
use Rattle.bep_wire.specs.Fields.{fields}
use Rattle.bep_messages.specs.Tables.{Scalar, Int32, Int64, Uint32, Uint64, Enum, Boolean, Words, Octets, Digest, Val}

-- the contents of the fields with this number, in order
abbrev pub contents : ℕ → List Item → List Content
contents number [] = []
contents number (i ∷ items) = if number == i.number then i.content ∷ contents number items else contents number items

-- a content under another wire type than the kind's is that of an unknown field, and is skipped
abbrev pub number_in : Content → List ℕ
number_in (Number n) = n ∷ []
number_in (Eight bytes) = []
number_in (Bytes bytes) = []
number_in (Four bytes) = []

abbrev pub bytes_in : Content → List (List ℕ)
bytes_in (Number n) = []
bytes_in (Eight bytes) = []
bytes_in (Bytes bytes) = bytes ∷ []
bytes_in (Four bytes) = []

-- the varints among contents, and the byte lists, in order
abbrev pub numbers : List Content → List ℕ
numbers [] = []
numbers (c ∷ cs) = number_in c ++ numbers cs

abbrev pub byte_lists : List Content → List (List ℕ)
byte_lists [] = []
byte_lists (c ∷ cs) = bytes_in c ++ byte_lists cs

-- the last of them, or else the other value
abbrev pub last : {A : Type 0} → A → List A → A
last other [] = other
last other (x ∷ xs) = last x xs

-- ---- one value

-- the low 32 bits, with or without a sign; 64 bits with a sign; whether it isn't 0
abbrev pub low32 : ℕ → ℕ
low32 n = n % 2 ^ 32

abbrev pub signed32 : ℕ → ℤ
signed32 n = cast_signed w32 (n % 2 ^ 32)

abbrev pub signed64 : ℕ → ℤ
signed64 n = cast_signed w64 n

abbrev pub nonzero : ℕ → Bool
nonzero n = not (n == 0)

-- what a kind's value is before any field
abbrev pub zero_of : (kind : Scalar) → Val kind
zero_of Int32 = pos 0
zero_of Int64 = pos 0
zero_of Uint32 = 0
zero_of Uint64 = 0
zero_of Enum = pos 0
zero_of Boolean = false
zero_of Words = []
zero_of Octets = []
zero_of Digest = []

-- the last of the contents of the kind's wire type, or else what there was before
abbrev pub scalar : (kind : Scalar) → Val kind → List Content → Val kind
scalar Int32 old cs = last old (map signed32 (numbers cs))
scalar Int64 old cs = last old (map signed64 (numbers cs))
scalar Uint32 old cs = last old (map low32 (numbers cs))
scalar Uint64 old cs = last old (numbers cs)
scalar Enum old cs = last old (map signed32 (numbers cs))
scalar Boolean old cs = last old (map nonzero (numbers cs))
scalar Words old cs = last old (byte_lists cs)
scalar Octets old cs = last old (byte_lists cs)
scalar Digest old cs = last old (byte_lists cs)

-- ---- one message

-- byte lists one after the other
abbrev pub joined : List ℕ → List (List ℕ) → List ℕ
joined first [] = first
joined first (next ∷ others) = first ++ joined next others

-- the value of the joined bytes of all occurrences, or what there was before
abbrev pub merged : {A : Type 0} → (A → List Item → A) → A → List (List ℕ) → A
merged value old [] = old
merged value old (first ∷ others) = value old (fields (joined first others)).items
