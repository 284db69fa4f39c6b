-- The one reading of a byte list: its fields, and the fault that ends them, if any.
use Rattle.std.specs.Prelude.{Result, Ok, Err, ℕ, zero, suc, List, [], ◌∷◌, length, Option, Some, None}
use Rattle.bep_wire.specs.declared.fault.WireFault.{WireFault}
use Rattle.bep_wire.specs.Content.{Item}
use Rattle.bep_wire.specs.Reading.{field_at}

pub record Fields : Type 0 where
  pub items : List Item
  pub fault : Option WireFault

-- the bytes end here
abbrev pub ended : Fields
ended = record { items = []; fault = None }

-- no field begins here
abbrev pub broken : WireFault → Fields
broken f = record { items = []; fault = Some f }

-- a field, and those after it
abbrev pub first_then : Item → Fields → Fields
first_then i others = record { items = i ∷ others.items; fault = others.fault }

abbrev pub read_then : (List ℕ → Fields) → Result (Item × List ℕ × List ℕ) WireFault → Fields
read_then others (Ok x) = first_then x.0 (others x.2)
read_then others (Err f) = broken f

-- a field has a byte at least, so that there are no more fields than bytes
unfoldable pub fields_within : ℕ → List ℕ → Fields
fields_within most [] = ended
fields_within zero (b ∷ bytes) = ended
fields_within (suc most) (b ∷ bytes) = read_then (fields_within most) (field_at (b ∷ bytes))

unfoldable pub fields : List ℕ → Fields
fields bytes = fields_within (length bytes) bytes
