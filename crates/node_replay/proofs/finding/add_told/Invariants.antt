use Rattle.std.proofs.Common.{◌≡◌, ◌++◌, ℕ, List, map, take}
use Rattle.node_replay.specs.Recovered.{firsts}
use Rattle.node_replay.proofs.finding.add_told.Given as goal

abbrev pub invariant-loop-part : goal.invariant-loop-part
invariant-loop-part l = (xs : List (List ℕ)) → l.fn.ids.items ≡ firsts xs → l.ids.items ≡ firsts (xs ++ map (λ p. p.id) (take l.part-index l.parts))
