use Rattle.folder_core.proofs.BestRule.{best-found, best-only, best-one, best-some, best-none, best-undominated}
use Rattle.folder_core.proofs.laws.best.best_is_preferred.Goals as goal

pub returns-clause-found : goal.returns-clause-found
returns-clause-found c = best-found

pub returns-clause-only : goal.returns-clause-only
returns-clause-only c = best-only

pub returns-clause-one : goal.returns-clause-one
returns-clause-one c = best-one

pub returns-clause-some : goal.returns-clause-some
returns-clause-some c = best-some

pub returns-clause-none : goal.returns-clause-none
returns-clause-none c = best-none

pub returns-clause-undominated : goal.returns-clause-undominated
returns-clause-undominated c = best-undominated
