use Rattle.proof_node.proofs.Begins.{first-asked}
use Rattle.proof_node.proofs.pulls.a_pull_first_asks_to_begin.Goals as goal

pub returns : goal.returns
returns g c = λ most moment n result old new before after h. first-asked most moment n _ _ _ _ _ result old before new after h
