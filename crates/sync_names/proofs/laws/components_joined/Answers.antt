use Rattle.sync_names.proofs.Lemmas.{components_joined-joined, components_joined-folder}
use Rattle.sync_names.proofs.laws.components_joined.Goals as goal

pub returns-clause-joined : goal.returns-clause-joined
returns-clause-joined c = components_joined-joined

pub returns-clause-folder : goal.returns-clause-folder
returns-clause-folder c = components_joined-folder
