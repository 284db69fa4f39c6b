use Rattle.folder_core.proofs.AnswersSay.{own-numbers, pulls-stay}
use Rattle.folder_core.proofs.laws.answers.open_pulls_stay.Goals as goal

pub returns-clause-kept : goal.returns-clause-kept
returns-clause-kept c = pulls-stay

pub returns-clause-numbers : goal.returns-clause-numbers
returns-clause-numbers c = own-numbers
