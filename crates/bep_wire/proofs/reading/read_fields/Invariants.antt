use Rattle.std.proofs.Common.{◌≡◌, ◌-◌, ◌++◌, List, drop, length, map}
use Rattle.bep_wire.specs.declared.field.Field.{Field}
use Rattle.bep_wire.specs.Content.{item_in}
use Rattle.bep_wire.specs.Fields.{fields}
use Rattle.bep_wire.specs.Places.{AreFields}
use Rattle.bep_wire.proofs.Readings.{items_then}
use Rattle.bep_wire.proofs.reading.read_fields.Given as goal

-- Whatever fields stand from here on, with those found they stand from the first byte on.
abbrev pub invariant-loop-found : goal.invariant-loop-found
invariant-loop-found l = record {
  reading : fields l.source ≡ items_then (map (item_in l.source) l.found.items) (fields (drop l.at l.source));
  places : (others : List Field) → AreFields l.source l.at others → AreFields l.source 0 (l.found.items ++ others);
}

abbrev pub decreases-loop-found : goal.decreases-loop-found
decreases-loop-found l = length l.source - l.at
