use Rattle.proof_node.proofs.Begins.{had-begun}
use Rattle.proof_node.proofs.pulls.a_pull_that_ends_had_begun.Goals as goal

pub returns : goal.returns
returns g c = λ most moment n result old new before after h tells. had-begun most moment n _ _ _ _ _ result old before new after h tells
