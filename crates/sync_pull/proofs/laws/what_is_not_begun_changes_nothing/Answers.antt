use Rattle.sync_pull.specs.Moments.{begun, not_begun}
use Rattle.sync_pull.proofs.laws.what_is_not_begun_changes_nothing.Goals as goal

pub returns-clause-not_needed : goal.returns-clause-not_needed
returns-clause-not_needed g c gate moment n old new before after (not_begun is same) = same
returns-clause-not_needed g c gate moment n old new before after (begun t view gets ends checks) = absurd ends.1

pub returns-clause-busy : goal.returns-clause-busy
returns-clause-busy g c gate moment n old new before after (not_begun is same) = same
returns-clause-busy g c gate moment n old new before after (begun t view gets ends checks) = absurd ends.1

pub returns-clause-unsupported : goal.returns-clause-unsupported
returns-clause-unsupported g c gate moment n old new before after (not_begun is same) = same
returns-clause-unsupported g c gate moment n old new before after (begun t view gets ends checks) = absurd ends.1
