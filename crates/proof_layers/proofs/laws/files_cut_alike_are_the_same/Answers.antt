use Rattle.proof_layers.proofs.BytesLemmas.{same-bytes}
use Rattle.proof_layers.proofs.laws.files_cut_alike_are_the_same.Goals as goal

pub returns : goal.returns
returns c one other alike apart = same-bytes alike.blocks one other alike.of_one alike.of_other apart
