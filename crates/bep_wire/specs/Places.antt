-- Fields by their places in a source.
use Rattle.std.specs.Prelude.{◌≡◌, ℕ, ◌<◌, ◌≤◌, List, [], ◌∷◌, length, drop, slice_range, Option, Some, None}
use Rattle.bep_wire.specs.declared.fault.WireFault.{WireFault}
use Rattle.bep_wire.specs.declared.fault.FieldsFault.{FieldsFault}
use Rattle.bep_wire.specs.declared.fault.FieldsFault.TheVariants.{Wire, OutOfMemory}
use Rattle.bep_wire.specs.declared.field.Field.{Field}
use Rattle.bep_wire.specs.Content.{item_in, held_in}
use Rattle.bep_wire.specs.Grammar.{IsField}
use Rattle.bep_wire.specs.Fields.{fields, ended, first_then}

-- A field at a place of the source: its head up to its start, and what it holds from there to its end.
pub record IsFieldAt (source : List ℕ) (from : ℕ) (f : Field) : Type 0 where
  pub head : from < f.start
  pub order : f.start ≤ f.end
  pub within : f.end ≤ length source
  pub field : IsField (slice_range source from f.start) (held_in source f) (item_in source f)

-- the field at a place, or none where the source ends there
abbrev pub FindsField : List ℕ → ℕ → Option Field → Type 0
FindsField source from None = length source ≤ from
FindsField source from (Some f) = IsFieldAt source from f

-- from a place on these are the fields, each where the one before ends, up to the end of the source
abbrev pub AreFields : List ℕ → ℕ → List Field → Type 0
AreFields source from [] = length source ≤ from
AreFields source from (f ∷ fs) = IsFieldAt source from f × AreFields source f.end fs

-- The reading from a place on is this field and then the reading from its end on, or it is at the end.
abbrev pub ReadsField : List ℕ → ℕ → Option Field → Type 0
ReadsField source from None = fields (drop from source) ≡ ended
ReadsField source from (Some f) = fields (drop from source) ≡ first_then (item_in source f) (fields (drop f.end source))

-- an error is the fault that ends the reading of the bytes, or out of memory
abbrev pub ReportsFault : Option WireFault → FieldsFault → Type 0
ReportsFault fault (Wire f) = fault ≡ Some f
ReportsFault fault OutOfMemory = Unit {0}
