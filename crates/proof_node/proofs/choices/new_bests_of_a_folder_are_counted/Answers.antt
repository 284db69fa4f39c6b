use Rattle.proof_node.proofs.FolderBests.{counts}
use Rattle.proof_node.proofs.choices.new_bests_of_a_folder_are_counted.Goals as goal

pub returns : goal.returns
returns c = λ s change choices. counts s change choices
