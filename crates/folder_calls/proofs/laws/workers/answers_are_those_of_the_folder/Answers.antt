use Rattle.folder_calls.proofs.HistoryAnswers.{accepted-says, legal-numbers, other-says}
use Rattle.folder_calls.proofs.laws.workers.answers_are_those_of_the_folder.Goals as goal

pub returns-clause-accepted : goal.returns-clause-accepted
returns-clause-accepted c = accepted-says

pub returns-clause-other : goal.returns-clause-other
returns-clause-other c = other-says

pub returns-clause-numbers : goal.returns-clause-numbers
returns-clause-numbers c = legal-numbers
