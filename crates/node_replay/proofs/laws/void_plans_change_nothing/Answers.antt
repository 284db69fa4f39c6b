use Rattle.std.proofs.Common.{refl}
use Rattle.node_replay.proofs.Twice.{void}
use Rattle.node_replay.proofs.laws.void_plans_change_nothing.Goals as goal

pub returns-clause-moved : goal.returns-clause-moved
returns-clause-moved c = void

pub returns-clause-absent : goal.returns-clause-absent
returns-clause-absent c = λ s p. refl
