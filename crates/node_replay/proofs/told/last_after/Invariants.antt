use Rattle.std.proofs.Common.{◌≡◌, ◌<◌, ◌^◌, map, max, take}
use Rattle.std.specs.Prelude.{fold}
use Rattle.node_replay.specs.Told.{lasts_told}
use Rattle.node_replay.proofs.told.last_after.Given as goal

abbrev pub invariant-loop-part : goal.invariant-loop-part
invariant-loop-part l = record {
  value : l.last ≡ fold max l.before (lasts_told (map (λ p. p.now) (take l.part-index l.parts)));
  fits : l.last < 2 ^ 63;
}
