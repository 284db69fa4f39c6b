-- The grammar of fields: which bytes are which fields, and what is wrong where none begins
-- (Protocol Buffers encoding, "Base 128 Varints" and "Message Structure"; own rule: bits of a varint past 64 are dropped).
use Rattle.std.specs.Prelude.{◌≡◌, ◌⊎◌, ℕ, ◌+◌, ◌*◌, ◌/◌, ◌%◌, ◌^◌, ◌<◌, ◌≤◌, List, [], ◌∷◌, ◌++◌, length, take, Option, Some, None}
use Rattle.std.specs.List.{AllByRecursion}
use Rattle.bep_wire.specs.declared.fault.WireFault.{WireFault}
use Rattle.bep_wire.specs.declared.field.TheConstants.{MAX_FIELD_NUMBER, MAX_VARINT_LEN}
use Rattle.bep_wire.specs.declared.fault.WireFault.TheVariants.{Truncated, LongVarint, BadKey, Group}
use Rattle.bep_wire.specs.Content.{Wire, VarintWire, EightWire, BytesWire, FourWire, GroupWire, NoWire, wire_of, Content, Number, Eight, Bytes, Four, Item}

-- ---- varints

-- A byte from 128 on says that more follows; one below 128 is the last.
abbrev pub IsSpelling : List ℕ → Type 0
IsSpelling [] = ⊥
IsSpelling (b ∷ bytes) = ((b < 128) × (bytes ≡ [])) ⊎ ((128 ≤ b) × IsSpelling bytes)

-- the number that the low seven bits of each byte make, the least first
abbrev pub spelled : List ℕ → ℕ
spelled [] = 0
spelled (b ∷ bytes) = b % 128 + 128 * spelled bytes

-- a varint: at most MAX_VARINT_LEN bytes, of whose number the low 64 bits count
pub record IsVarint (bytes : List ℕ) (n : ℕ) : Type 0 where
  pub ends : IsSpelling bytes
  pub short : length bytes ≤ MAX_VARINT_LEN
  pub value : n ≡ spelled bytes % 2 ^ 64

abbrev pub AllGoOn : List ℕ → Type 0
AllGoOn bytes = AllByRecursion (λ b. 128 ≤ b) bytes

-- no varint begins here: the bytes end before it does, or the tenth says that more follows
abbrev pub NoVarint : List ℕ → WireFault → Type 0
NoVarint bytes Truncated = AllGoOn bytes × (length bytes < MAX_VARINT_LEN)
NoVarint bytes LongVarint = AllGoOn (take MAX_VARINT_LEN bytes) × (MAX_VARINT_LEN ≤ length bytes)
NoVarint bytes BadKey = ⊥
NoVarint bytes Group = ⊥

-- ---- what follows a key

-- After a key of this wire type come a length, if the wire type has one, and these bytes, which hold this.
abbrev pub Holds : Wire → List ℕ → List ℕ → Content → Type 0
Holds wire len held (Number n) = (wire ≡ VarintWire) × (len ≡ []) × IsVarint held n
Holds wire len held (Eight bytes) = (wire ≡ EightWire) × (len ≡ []) × (bytes ≡ held) × (length held ≡ 8)
Holds wire len held (Bytes bytes) = (wire ≡ BytesWire) × IsVarint len (length held) × (bytes ≡ held)
Holds wire len held (Four bytes) = (wire ≡ FourWire) × (len ≡ []) × (bytes ≡ held) × (length held ≡ 4)

-- a length, and fewer bytes than it says
pub record IsCut (bytes : List ℕ) : Type 0 where
  pub len : List ℕ
  pub after : List ℕ
  pub n : ℕ
  pub split : bytes ≡ len ++ after
  pub length_is : IsVarint len n
  pub fewer : length after < n

-- the fault of these bytes after a key of this wire type
abbrev pub HoldsNothing : Wire → List ℕ → WireFault → Type 0
HoldsNothing VarintWire bytes f = NoVarint bytes f
HoldsNothing EightWire bytes f = (f ≡ Truncated) × (length bytes < 8)
HoldsNothing BytesWire bytes f = NoVarint bytes f ⊎ ((f ≡ Truncated) × IsCut bytes)
HoldsNothing FourWire bytes f = (f ≡ Truncated) × (length bytes < 4)
HoldsNothing GroupWire bytes f = f ≡ Group
HoldsNothing NoWire bytes f = f ≡ BadKey

-- ---- fields

abbrev pub IsNumber : ℕ → Type 0
IsNumber number = (0 < number) × (number ≤ MAX_FIELD_NUMBER)

-- A field: its head is a key, that is a varint of 8 * number + wire type, and the length, if any; then come the bytes that it holds.
pub record IsField (head held : List ℕ) (i : Item) : Type 0 where
  pub key : List ℕ
  pub len : List ℕ
  pub word : ℕ
  pub split : head ≡ key ++ len
  pub key_is : IsVarint key word
  pub number_is : word / 8 ≡ i.number
  pub in_range : IsNumber i.number
  pub holds : Holds (wire_of (word % 8)) len held i.content

-- the fault after a key: that of its number first
abbrev pub NoContent : ℕ → List ℕ → WireFault → Type 0
NoContent word bytes f =
    ((IsNumber (word / 8) → ⊥) × (f ≡ BadKey))
    ⊎ (IsNumber (word / 8) × HoldsNothing (wire_of (word % 8)) bytes f)

-- a key, and the fault after it
pub record IsKeyAlone (bytes : List ℕ) (f : WireFault) : Type 0 where
  pub key : List ℕ
  pub after : List ℕ
  pub word : ℕ
  pub split : bytes ≡ key ++ after
  pub key_is : IsVarint key word
  pub wrong : NoContent word after f

-- no field begins here, though bytes are left
abbrev pub NoField : List ℕ → WireFault → Type 0
NoField bytes f = (0 < length bytes) × (NoVarint bytes f ⊎ IsKeyAlone bytes f)

-- a field, and bytes after it
pub record Begins (bytes : List ℕ) (i : Item) (rest : List ℕ) : Type 0 where
  pub head : List ℕ
  pub held : List ℕ
  pub split : bytes ≡ head ++ (held ++ rest)
  pub field : IsField head held i

-- These fields, one after the other, and then the end, or the fault of the first place where no field begins.
abbrev pub Reads : List ℕ → List Item → Option WireFault → Type 0
Reads bytes [] None = bytes ≡ []
Reads bytes [] (Some f) = NoField bytes f
Reads bytes (i ∷ is) end = (rest : List ℕ) × Begins bytes i rest × Reads rest is end
