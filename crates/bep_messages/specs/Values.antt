-- The value of a message: for each row of its table, from the fields with the row's number.
use Rattle.std.specs.Prelude.{ℕ, List, [], ◌++◌, map, Result}
use Rattle.bep_wire.specs.Content.{Item}
use Rattle.bep_wire.specs.Fields.{fields}
use Rattle.bep_messages.specs.declared.fault.MessageFault.{MessageFault}
use Rattle.bep_messages.specs.Tables.{Table, End, One, Message, Texts, Messages, Values}
use Rattle.bep_messages.specs.Contents.{contents, byte_lists, zero_of, scalar, merged}
use Rattle.bep_messages.specs.Faults.{message_fault, outcome}

-- the message without a field
abbrev pub empty : (table : Table) → Values table
empty End = tt
empty (One number kind rows) = (zero_of kind, empty rows)
empty (Message number inner rows) = (empty inner, empty rows)
empty (Texts number rows) = ([], empty rows)
empty (Messages number inner rows) = ([], empty rows)

-- what these fields make of a message: the last of a single value, the value of the joined bytes of a message,
-- and those of a list, in order, after those that it has
abbrev pub values : (table : Table) → Values table → List Item → Values table
values End old items = tt
values (One number kind rows) old items = (scalar kind old.0 (contents number items), values rows old.1 items)
values (Message number inner rows) old items = (merged (values inner) old.0 (byte_lists (contents number items)), values rows old.1 items)
values (Texts number rows) old items = (old.0 ++ byte_lists (contents number items), values rows old.1 items)
values (Messages number inner rows) old items =
    (old.0 ++ map (λ bytes. values inner (empty inner) (fields bytes).items) (byte_lists (contents number items)), values rows old.1 items)

-- the value of bytes that have no fault
abbrev pub value : (table : Table) → List ℕ → Values table
value table bytes = values table (empty table) (fields bytes).items

-- the message of bytes, or their first fault
abbrev pub decoded : {M : Type 0} → (table : Table) → (Values table → M) → List ℕ → Result M MessageFault
decoded table message bytes = outcome (message_fault table bytes) (message (value table bytes))
