use Rattle.std.proofs.Common.{◌≡◌, map, take}
use Rattle.node_replay.specs.Told.{number_after}
use Rattle.node_replay.proofs.told.number_after.Given as goal

abbrev pub invariant-loop-part : goal.invariant-loop-part
invariant-loop-part l = l.number ≡ number_after l.before (map (λ p. p.now) (take l.part-index l.parts))
