use Rattle.folder_core.proofs.AnswersSay.{begun-says}
use Rattle.folder_core.proofs.laws.answers.begun_pulls_are_of_the_name.Goals as goal

pub returns : goal.returns
returns c = begun-says
