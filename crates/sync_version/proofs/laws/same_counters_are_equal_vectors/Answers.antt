use Rattle.sync_version.proofs.Lemmas.{same_counters, same_version_tells}
use Rattle.sync_version.proofs.laws.same_counters_are_equal_vectors.Goals as goal

pub returns-clause-equal : goal.returns-clause-equal
returns-clause-equal c = same_counters

pub returns-clause-tested : goal.returns-clause-tested
returns-clause-tested c = same_version_tells
