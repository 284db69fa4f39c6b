-- A field without its place in its source (Protocol Buffers encoding, "Message Structure").
use Rattle.std.specs.Prelude.{ℕ, ◌==◌, if◌then◌else◌, List, slice_range}
use Rattle.bep_wire.specs.declared.field.Value.{Value}
use Rattle.bep_wire.specs.declared.field.Value.TheVariants as values
use Rattle.bep_wire.specs.declared.field.Field.{Field}

-- the wire types: a varint, eight bytes, a length and so many bytes, four bytes; the two of groups; and those without a meaning
pub data Wire : Type 0 where
  VarintWire : Wire
  EightWire : Wire
  BytesWire : Wire
  FourWire : Wire
  GroupWire : Wire
  NoWire : Wire

abbrev pub wire_of : ℕ → Wire
wire_of n =
    if n == 0 then VarintWire
    else (if n == 1 then EightWire
    else (if n == 2 then BytesWire
    else (if n == 3 then GroupWire
    else (if n == 4 then GroupWire
    else (if n == 5 then FourWire
    else NoWire)))))

-- what a field holds, by its wire type
pub data Content : Type 0 where
  Number : (value : ℕ) → Content
  Eight : (bytes : List ℕ) → Content
  Bytes : (bytes : List ℕ) → Content
  Four : (bytes : List ℕ) → Content

pub record Item : Type 0 where
  pub number : ℕ
  pub content : Content

-- ---- the same of a `Field`, whose bytes are in its source

abbrev pub content_of : Value → List ℕ → Content
content_of (values.Varint n) held = Number n
content_of values.Eight held = Eight held
content_of values.Bytes held = Bytes held
content_of values.Four held = Four held

-- the bytes that it holds
abbrev pub held_in : List ℕ → Field → List ℕ
held_in source f = slice_range source f.start f.end

abbrev pub content_in : List ℕ → Field → Content
content_in source f = content_of f.value (held_in source f)

abbrev pub item_in : List ℕ → Field → Item
item_in source f = record { number = f.number; content = content_in source f }
