use Rattle.std.proofs.Common.{◌≡◌, ◌-◌, drop, length}
use Rattle.bep_wire.specs.Fields.{fields}
use Rattle.bep_messages.specs.Faults.{message_fault}
use Rattle.bep_messages.specs.Memory.{TakesMemory}
use Rattle.bep_messages.specs.Values.{values}
use Rattle.bep_messages.proofs.message.ProtoMessage.merge.Given as goal

abbrev pub invariant-loop-field : goal.invariant-loop-field
invariant-loop-field g l =
    let table = g.Self.ProtoMessage.table in
    let parts = g.Self.ProtoMessage.parts in
    record {
      memory : TakesMemory table (drop l.at l.bytes) → TakesMemory table l.bytes;
      fault : message_fault table (drop l.at l.bytes) ≡ message_fault table l.bytes;
      value : values table (parts l.self) (fields (drop l.at l.bytes)).items ≡ values table (parts l.fn.self) (fields l.bytes).items;
    }

abbrev pub decreases-loop-field : goal.decreases-loop-field
decreases-loop-field g l = length l.bytes - l.at
