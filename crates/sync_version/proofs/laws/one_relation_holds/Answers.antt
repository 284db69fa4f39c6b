use Rattle.sync_version.proofs.Lemmas.{relation_holds, relation_only, relation_turned}
use Rattle.sync_version.proofs.laws.one_relation_holds.Goals as goal

pub returns-clause-holds : goal.returns-clause-holds
returns-clause-holds c = relation_holds

pub returns-clause-only : goal.returns-clause-only
returns-clause-only c = relation_only

pub returns-clause-turned : goal.returns-clause-turned
returns-clause-turned c = relation_turned
