use Rattle.sync_version.proofs.Lemmas.{merge_left, merge_right, merge_least}
use Rattle.sync_version.proofs.laws.merge_is_least_above.Goals as goal

pub returns-clause-first : goal.returns-clause-first
returns-clause-first c = merge_left

pub returns-clause-second : goal.returns-clause-second
returns-clause-second c = merge_right

pub returns-clause-least : goal.returns-clause-least
returns-clause-least c = merge_least
