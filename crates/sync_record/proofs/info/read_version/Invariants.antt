use Rattle.std.proofs.Common.{◌≡◌, map, take}
use Rattle.bep_messages.specs.declared.counter.Counter.{Counter}
use Rattle.sync_record.proofs.info.read_version.Given as goal

-- a pair for each counter so far
abbrev pub invariant-loop-counter : goal.invariant-loop-counter
invariant-loop-counter l = l.pairs.items ≡ map (λ (k : Counter). (k.id, k.value)) (take l.counter-index l.counters)
