use Rattle.sync_version.proofs.Lemmas.{covers_tells, dominates_tells, dominates_itself, dominates_trans}
use Rattle.sync_version.proofs.laws.domination_is_an_order.Goals as goal

pub returns-clause-covers : goal.returns-clause-covers
returns-clause-covers c = covers_tells

pub returns-clause-dominates : goal.returns-clause-dominates
returns-clause-dominates c = dominates_tells

pub returns-clause-irreflexive : goal.returns-clause-irreflexive
returns-clause-irreflexive c = dominates_itself

pub returns-clause-transitive : goal.returns-clause-transitive
returns-clause-transitive c = dominates_trans
