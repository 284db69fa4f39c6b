-- Which fields a table knows (Protocol Buffers encoding, "Unknown Fields"; own rule: a known number under another wire
-- type than its kind's is an unknown field).
use Rattle.std.specs.Prelude.{ℕ, ◌==◌, Bool, true, false, if◌then◌else◌}
use Rattle.bep_wire.specs.Content.{Content, Number, Eight, Bytes, Four, Item}
use Rattle.bep_messages.specs.Tables.{Scalar, Int32, Int64, Uint32, Uint64, Enum, Boolean, Words, Octets, Digest, Table, End, One, Message, Texts, Messages}

abbrev pub is_number : Content → Bool
is_number (Number n) = true
is_number (Eight bytes) = false
is_number (Bytes bytes) = false
is_number (Four bytes) = false

abbrev pub is_bytes : Content → Bool
is_bytes (Number n) = false
is_bytes (Eight bytes) = false
is_bytes (Bytes bytes) = true
is_bytes (Four bytes) = false

-- whether the content is under the kind's wire type
abbrev pub is_of : Scalar → Content → Bool
is_of Int32 c = is_number c
is_of Int64 c = is_number c
is_of Uint32 c = is_number c
is_of Uint64 c = is_number c
is_of Enum c = is_number c
is_of Boolean c = is_number c
is_of Words c = is_bytes c
is_of Octets c = is_bytes c
is_of Digest c = is_bytes c

-- whether the table has a row for the field's number, of a kind with its wire type
abbrev pub is_known : Table → Item → Bool
is_known End i = false
is_known (One number kind rows) i = if number == i.number then is_of kind i.content else is_known rows i
is_known (Message number inner rows) i = if number == i.number then is_bytes i.content else is_known rows i
is_known (Texts number rows) i = if number == i.number then is_bytes i.content else is_known rows i
is_known (Messages number inner rows) i = if number == i.number then is_bytes i.content else is_known rows i

-- whether the table's row for the number holds one value, and no message
abbrev pub is_single : Table → ℕ → Bool
is_single End n = false
is_single (One number kind rows) n = if number == n then true else is_single rows n
is_single (Message number inner rows) n = if number == n then false else is_single rows n
is_single (Texts number rows) n = if number == n then false else is_single rows n
is_single (Messages number inner rows) n = if number == n then false else is_single rows n
