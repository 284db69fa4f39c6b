use Rattle.folder_core.proofs.PullStages.{enter-commits}
use Rattle.folder_core.proofs.ChangeAnswers.{enter-stray, enter-moved, enter-superseded, enter-sequence, enter-entered}
use Rattle.folder_core.proofs.laws.pulls.entering_is_tested_in_order.Goals as goal

pub returns-clause-stray : goal.returns-clause-stray
returns-clause-stray c = enter-stray

pub returns-clause-moved : goal.returns-clause-moved
returns-clause-moved c = enter-moved

pub returns-clause-superseded : goal.returns-clause-superseded
returns-clause-superseded c = enter-superseded

pub returns-clause-sequence : goal.returns-clause-sequence
returns-clause-sequence c = λ s t p e ticket same is version content. enter-sequence s t p ticket same e is version content

pub returns-clause-entered : goal.returns-clause-entered
returns-clause-entered c = λ s t p e ticket same is version content. enter-entered s t p ticket same e is version content

pub returns-clause-committing : goal.returns-clause-committing
returns-clause-committing c = enter-commits
