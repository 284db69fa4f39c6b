use Rattle.sync_version.proofs.Lemmas.{raised_is, raised_only, raised_dominates}
use Rattle.sync_version.proofs.laws.raise_dominates.Goals as goal

pub returns-clause-holds : goal.returns-clause-holds
returns-clause-holds c = raised_is

pub returns-clause-only : goal.returns-clause-only
returns-clause-only c = raised_only

pub returns-clause-dominates : goal.returns-clause-dominates
returns-clause-dominates c = raised_dominates
