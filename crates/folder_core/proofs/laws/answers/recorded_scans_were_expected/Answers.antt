use Rattle.folder_core.proofs.AnswersSay.{found-says, gone-says}
use Rattle.folder_core.proofs.laws.answers.recorded_scans_were_expected.Goals as goal

pub returns-clause-found : goal.returns-clause-found
returns-clause-found c = found-says

pub returns-clause-gone : goal.returns-clause-gone
returns-clause-gone c = gone-says
