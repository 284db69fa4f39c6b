use Rattle.std.proofs.Common.{◌≡◌, ◌++◌, filter, map, nat_le, take}
use Rattle.node_keeper.proofs.plans.add_unsaved.Given as goal

abbrev pub invariant-loop-pull : goal.invariant-loop-pull
invariant-loop-pull l = l.plans.items ≡ l.fn.plans.items ++ map (λ p. p.plan) (filter (λ p. nat_le l.kept p.batch) (take l.pull-index l.pulls))
