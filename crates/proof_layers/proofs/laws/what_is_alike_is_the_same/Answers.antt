use Rattle.proof_layers.proofs.BytesLemmas.{same-bytes}
use Rattle.proof_layers.proofs.laws.what_is_alike_is_the_same.Goals as goal

pub returns-clause-nothing : goal.returns-clause-nothing
returns-clause-nothing c other alike = alike

pub returns-clause-directories : goal.returns-clause-directories
returns-clause-directories c other alike = alike

pub returns-clause-files : goal.returns-clause-files
returns-clause-files c bytes modified other alike =
    (alike.0, alike.1, alike.2, alike.3, λ apart. same-bytes alike.3.blocks bytes alike.0 alike.3.of_one alike.3.of_other apart)
