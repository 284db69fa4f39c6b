use Rattle.std.proofs.Common.{◌≡◌, ◌++◌, map, take}
use Rattle.std.specs.Prelude.{bytes_eq, filter}
use Rattle.node_replay.proofs.finding.add_parts.Given as goal

abbrev pub invariant-loop-part : goal.invariant-loop-part
invariant-loop-part l = map (λ p. p.now) l.parts.items ≡ map (λ p. p.now) l.fn.parts.items ++ filter (λ p. bytes_eq p.id l.id) (take l.part-index l.more)
