use Rattle.sync_version.proofs.Lemmas.{merge_is, merge_only}
use Rattle.sync_version.proofs.laws.merge_is_greatest_counters.Goals as goal

pub returns-clause-holds : goal.returns-clause-holds
returns-clause-holds c = merge_is

pub returns-clause-only : goal.returns-clause-only
returns-clause-only c = merge_only
