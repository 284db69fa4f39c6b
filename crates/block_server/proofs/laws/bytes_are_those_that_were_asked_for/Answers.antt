use Rattle.block_server.proofs.SaidOfAnswers.{answers-id, answers-say}
use Rattle.block_server.proofs.laws.bytes_are_those_that_were_asked_for.Goals as goal

pub returns-clause-id : goal.returns-clause-id
returns-clause-id c = answers-id

pub returns-clause-code : goal.returns-clause-code
returns-clause-code c = answers-say
