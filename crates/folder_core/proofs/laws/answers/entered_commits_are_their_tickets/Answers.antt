use Rattle.folder_core.proofs.AnswersSay.{entered-says}
use Rattle.folder_core.proofs.laws.answers.entered_commits_are_their_tickets.Goals as goal

pub returns : goal.returns
returns c = entered-says
