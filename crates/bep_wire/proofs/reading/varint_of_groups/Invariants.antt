use Rattle.std.proofs.Common.{◌≡◌, ◌-◌, ◌+◌, ◌<◌, ◌≤◌, drop, length}
use Rattle.bep_wire.specs.Reading.{groups_at, varint_at}
use Rattle.bep_wire.proofs.Groups.{with_low}
use Rattle.bep_wire.proofs.reading.varint_of_groups.Given as goal

abbrev pub invariant-loop-turn : goal.invariant-loop-turn
invariant-loop-turn l = record {
  at : l.at ≡ l.from + l.turn;
  within : 0 < l.turn → l.at ≤ length l.source;
  rest : with_low l.value l.turn (groups_at (10 - l.turn) (drop l.at l.source)) ≡ varint_at (drop l.from l.source);
}
