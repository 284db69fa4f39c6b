use Rattle.std.proofs.Common.{◌≡◌, map, take}
use Rattle.node_replay.proofs.told.base_of.Given as goal

abbrev pub invariant-loop-counter : goal.invariant-loop-counter
invariant-loop-counter l = l.pairs.items ≡ map (λ c. (c.id, c.value)) (take l.counter-index l.plan.base.counters)
