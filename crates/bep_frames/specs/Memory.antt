-- Where reading the first frame of some bytes may allocate (own rule): only to decode a whole Hello, or a whole message of
-- a known type, that takes memory. A header never does, nor does a message of an unknown type.
use Rattle.std.specs.Prelude.{◌≡◌, ℕ, ◌≤◌, Bool, true, false, ℤ, pos, negsuc, List, ◌++◌, length, IsSomeAnd}
use Rattle.bep_messages.specs.declared.header.Header.{Header}
use Rattle.bep_messages.specs.Protocol.{hello_table}
use Rattle.bep_messages.specs.Memory.{TakesMemory}
use Rattle.bep_frames.specs.Carried.{kind_at}
use Rattle.bep_frames.specs.Grammar.{magic, max_message_bytes, IsSized16, IsSized32, HasHeader}

-- decoding these bytes as a message of this type takes memory
abbrev pub BodyTakesMemory : ℤ → List ℕ → Type 0
BodyTakesMemory (pos n) bytes = IsSomeAnd (kind_at n) (λ kind. TakesMemory kind.table bytes)
BodyTakesMemory (negsuc n) bytes = ⊥

-- a whole Hello of which decoding takes memory
pub record HelloTakesMemory (bytes : List ℕ) : Type 0 where
  pub sized : List ℕ
  pub body : List ℕ
  pub after : List ℕ
  pub split : bytes ≡ magic ++ (sized ++ after)
  pub sized_is : IsSized16 sized body
  pub takes : TakesMemory hello_table body

-- a whole message of a known type of which decoding takes memory
pub record MessageTakesMemory (bytes : List ℕ) : Type 0 where
  pub says : Header
  pub sized : List ℕ
  pub body : List ℕ
  pub after : List ℕ
  pub header : HasHeader bytes says (sized ++ after)
  pub plain : says.compression ≡ pos 0
  pub sized_is : IsSized32 sized body
  pub short : length body ≤ max_message_bytes
  pub takes : BodyTakesMemory says.kind body

-- one of these is first in the bytes, where a Hello is due and where none is
abbrev pub FrameTakesMemory : Bool → List ℕ → Type 0
FrameTakesMemory true bytes = HelloTakesMemory bytes
FrameTakesMemory false bytes = MessageTakesMemory bytes
