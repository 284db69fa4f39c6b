-- The first fault of a message, from left to right.
use Rattle.std.specs.Prelude.{◌≡◌, ℕ, ◌==◌, List, [], ◌∷◌, Option, Some, None, Result, Ok, Err, if◌then◌else◌}
use Rattle.std.specs.Str.{is_utf8}
use Rattle.bep_wire.specs.declared.fault.WireFault.{WireFault}
use Rattle.bep_wire.specs.Content.{Content, Number, Eight, Bytes, Four, Item}
use Rattle.bep_wire.specs.Fields.{fields}
use Rattle.bep_messages.specs.declared.fault.MessageFault.{MessageFault}
use Rattle.bep_messages.specs.declared.fault.MessageFault.TheVariants.{Wire, NotUtf8, OutOfMemory}
use Rattle.bep_messages.specs.Tables.{Scalar, Int32, Int64, Uint32, Uint64, Enum, Boolean, Words, Octets, Digest, Table, End, One, Message, Texts, Messages}

-- the fault of the bytes that a field holds; what is under another wire type is skipped
abbrev pub bytes_fault : (List ℕ → Option MessageFault) → Content → Option MessageFault
bytes_fault fault (Number n) = None
bytes_fault fault (Eight bytes) = None
bytes_fault fault (Bytes bytes) = fault bytes
bytes_fault fault (Four bytes) = None

abbrev pub text_fault : List ℕ → Option MessageFault
text_fault bytes = if is_utf8 bytes then None else Some NotUtf8

-- only a text can be wrong
abbrev pub scalar_fault : Scalar → Content → Option MessageFault
scalar_fault Int32 c = None
scalar_fault Int64 c = None
scalar_fault Uint32 c = None
scalar_fault Uint64 c = None
scalar_fault Enum c = None
scalar_fault Boolean c = None
scalar_fault Words c = bytes_fault text_fault c
scalar_fault Octets c = None
scalar_fault Digest c = None

-- the first that is there
abbrev pub or_else : Option MessageFault → Option MessageFault → Option MessageFault
or_else None other = other
or_else (Some f) other = Some f

abbrev pub wire_fault : Option WireFault → Option MessageFault
wire_fault None = None
wire_fault (Some f) = Some (Wire f)

-- the first of the fields' faults, or else the one that ends the fields
abbrev pub first_fault : (Item → Option MessageFault) → List Item → Option WireFault → Option MessageFault
first_fault fault [] end = wire_fault end
first_fault fault (i ∷ items) end = or_else (fault i) (first_fault fault items end)

-- The fault of one field: that of what it holds, by the row of its number; a field without a row is skipped.
abbrev pub item_fault : Table → Item → Option MessageFault
item_fault End i = None
item_fault (One number kind rows) i = if number == i.number then scalar_fault kind i.content else item_fault rows i
item_fault (Message number inner rows) i =
    if number == i.number then bytes_fault (λ bytes. first_fault (item_fault inner) (fields bytes).items (fields bytes).fault) i.content else item_fault rows i
item_fault (Texts number rows) i = if number == i.number then bytes_fault text_fault i.content else item_fault rows i
item_fault (Messages number inner rows) i =
    if number == i.number then bytes_fault (λ bytes. first_fault (item_fault inner) (fields bytes).items (fields bytes).fault) i.content else item_fault rows i

-- the fault of a message's bytes
abbrev pub message_fault : Table → List ℕ → Option MessageFault
message_fault table bytes = first_fault (item_fault table) (fields bytes).items (fields bytes).fault

-- a value, unless there is a fault
abbrev pub outcome : {A : Type 0} → Option MessageFault → A → Result A MessageFault
outcome None value = Ok value
outcome (Some f) value = Err f

-- an error is the fault, or out of memory
abbrev pub Reports : Option MessageFault → MessageFault → Type 0
Reports fault (Wire f) = fault ≡ Some (Wire f)
Reports fault NotUtf8 = fault ≡ Some NotUtf8
Reports fault OutOfMemory = Unit {0}
