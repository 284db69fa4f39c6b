-- Which fields are kept in memory of their own, so that decoding may allocate for them (own rule).
use Rattle.std.specs.Prelude.{◌≡◌, ◌⊎◌, ◌<◌, ℕ, ◌==◌, List, [], ◌∷◌, length, Option, None, MatchBool}
use Rattle.std.specs.Str.{IsUtf8}
use Rattle.bep_wire.specs.Content.{Content, Number, Eight, Bytes, Four, Item}
use Rattle.bep_wire.specs.Fields.{fields}
use Rattle.bep_messages.specs.declared.fault.MessageFault.{MessageFault}
use Rattle.bep_messages.specs.declared.octets.TheConstants.{DIGEST_LEN}
use Rattle.bep_messages.specs.Tables.{Scalar, Int32, Int64, Uint32, Uint64, Enum, Boolean, Words, Octets, Digest, Table, End, One, Message, Texts, Messages}
use Rattle.bep_messages.specs.Faults.{item_fault, message_fault}

-- a field that holds bytes with this property; what is under another wire type is skipped, and needs no memory
abbrev pub HoldsBytes : (List ℕ → Type 0) → Content → Type 0
HoldsBytes property (Number n) = ⊥
HoldsBytes property (Eight bytes) = ⊥
HoldsBytes property (Bytes bytes) = property bytes
HoldsBytes property (Four bytes) = ⊥

-- One value takes memory if it is a text, and not an empty one; bytes, and not no bytes; or more bytes than a digest has.
abbrev pub ScalarTakes : Scalar → Content → Type 0
ScalarTakes Int32 c = ⊥
ScalarTakes Int64 c = ⊥
ScalarTakes Uint32 c = ⊥
ScalarTakes Uint64 c = ⊥
ScalarTakes Enum c = ⊥
ScalarTakes Boolean c = ⊥
ScalarTakes Words c = HoldsBytes (λ bytes. IsUtf8 bytes × (0 < length bytes)) c
ScalarTakes Octets c = HoldsBytes (λ bytes. 0 < length bytes) c
ScalarTakes Digest c = HoldsBytes (λ bytes. DIGEST_LEN < length bytes) c

-- one of the fields takes memory, and no field before it has a fault
abbrev pub SomeTakes : (Item → Type 0) → (Item → Option MessageFault) → List Item → Type 0
SomeTakes takes fault [] = ⊥
SomeTakes takes fault (i ∷ items) = takes i ⊎ ((fault i ≡ None) × SomeTakes takes fault items)

-- One field takes memory, by the row of its number: one value, as above; a message, if one of its own fields does;
-- in a list, each text, and each message without a fault, for its place in the list. A field without a row takes none.
abbrev pub ItemTakes : Table → Item → Type 0
ItemTakes End i = ⊥
ItemTakes (One number kind rows) i = MatchBool (number == i.number) (ScalarTakes kind i.content) (ItemTakes rows i)
ItemTakes (Message number inner rows) i =
    MatchBool (number == i.number) (HoldsBytes (λ bytes. SomeTakes (ItemTakes inner) (item_fault inner) (fields bytes).items) i.content) (ItemTakes rows i)
ItemTakes (Texts number rows) i = MatchBool (number == i.number) (HoldsBytes IsUtf8 i.content) (ItemTakes rows i)
ItemTakes (Messages number inner rows) i =
    MatchBool (number == i.number)
    (HoldsBytes (λ bytes. SomeTakes (ItemTakes inner) (item_fault inner) (fields bytes).items ⊎ (message_fault inner bytes ≡ None)) i.content)
    (ItemTakes rows i)

-- Decoding these bytes as a message of this table may allocate: one of its fields takes memory, and no field before it has a fault.
abbrev pub TakesMemory : Table → List ℕ → Type 0
TakesMemory table bytes = SomeTakes (ItemTakes table) (item_fault table) (fields bytes).items

-- so may adding the message of these bytes to a list
abbrev pub ElementTakes : Table → List ℕ → Type 0
ElementTakes table bytes = TakesMemory table bytes ⊎ (message_fault table bytes ≡ None)
