use Rattle.folder_core.proofs.AnswersSay.{stray-commit, stray-ticket}
use Rattle.folder_core.proofs.laws.answers.stray_pulls_are_not_open.Goals as goal

pub returns-clause-ticket : goal.returns-clause-ticket
returns-clause-ticket c = stray-ticket

pub returns-clause-commit : goal.returns-clause-commit
returns-clause-commit c = stray-commit
