use Rattle.sync_record.proofs.SameContent.{reflexive, symmetric, transitive}
use Rattle.sync_record.proofs.laws.same_content_is_an_equivalence.Goals as goal

pub returns-clause-reflexive : goal.returns-clause-reflexive
returns-clause-reflexive c = reflexive

pub returns-clause-symmetric : goal.returns-clause-symmetric
returns-clause-symmetric c = symmetric

pub returns-clause-transitive : goal.returns-clause-transitive
returns-clause-transitive c = transitive
