use Rattle.block_server.proofs.SaidOfAnswers.{answers-fault}
use Rattle.block_server.proofs.laws.faults_are_answered_with_code_1.Goals as goal

pub returns : goal.returns
returns c = answers-fault
