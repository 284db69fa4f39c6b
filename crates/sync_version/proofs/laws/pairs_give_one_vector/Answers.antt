use Rattle.sync_version.proofs.Lemmas.{from_counters_is, gathered_only, from_canonical}
use Rattle.sync_version.proofs.laws.pairs_give_one_vector.Goals as goal

pub returns-clause-holds : goal.returns-clause-holds
returns-clause-holds c = from_counters_is

pub returns-clause-only : goal.returns-clause-only
returns-clause-only c = gathered_only

pub returns-clause-canonical : goal.returns-clause-canonical
returns-clause-canonical c = from_canonical
