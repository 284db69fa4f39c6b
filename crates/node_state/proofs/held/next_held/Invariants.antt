use Rattle.std.proofs.Common.{◌≡◌, ◌≤◌, ◌-◌, drop, length}
use Rattle.bep_wire.specs.Fields.{fields}
use Rattle.node_state.specs.Reading.{held}
use Rattle.node_state.proofs.held.next_held.Given as goal

abbrev pub invariant-loop-field : goal.invariant-loop-field
invariant-loop-field l = record {
  on : l.fn.from ≤ l.at;
  held : held l.number (drop l.fn.from l.source) ≡ held l.number (drop l.at l.source);
  fault : (fields (drop l.fn.from l.source)).fault ≡ (fields (drop l.at l.source)).fault;
}

abbrev pub decreases-loop-field : goal.decreases-loop-field
decreases-loop-field l = length l.source - l.at
