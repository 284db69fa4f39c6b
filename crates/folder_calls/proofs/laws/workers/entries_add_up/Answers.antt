use Rattle.folder_calls.proofs.HistoryAnswers.{adds-on, adds-sees, sees-adds}
use Rattle.folder_calls.proofs.laws.workers.entries_add_up.Goals as goal

pub returns-clause-seen : goal.returns-clause-seen
returns-clause-seen c = λ old new. (sees-adds old new, adds-sees old new)

pub returns-clause-together : goal.returns-clause-together
returns-clause-together c = adds-on
