use Rattle.std.proofs.Common.{◌≡◌, ◌-◌, ◌*◌, ◌^◌, ◌<◌, ◌≤◌, ◌++◌, take, length}
use Rattle.bep_wire.specs.Written.{shortest_within, shortest}
use Rattle.bep_wire.proofs.writing.Shortest.new.Given as goal

abbrev pub invariant-loop-rest : goal.invariant-loop-rest
invariant-loop-rest l = record {
  room : l.len ≤ 9;
  wide : length l.bytes ≡ 10;
  below : l.rest < 2 ^ (64 - 7 * l.len);
  so_far : take l.len l.bytes ++ shortest_within (9 - l.len) l.rest ≡ shortest l.value;
}

abbrev pub decreases-loop-rest : goal.decreases-loop-rest
decreases-loop-rest l = l.rest
