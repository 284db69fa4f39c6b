use Rattle.std.proofs.Common.{refl}
use Rattle.folder_core.proofs.RunsSay.{partway-says, run-more}
use Rattle.folder_core.proofs.laws.runs.changes_are_made_in_order.Goals as goal

pub returns-clause-none : goal.returns-clause-none
returns-clause-none c = λ s. refl

pub returns-clause-one : goal.returns-clause-one
returns-clause-one c = λ s c. refl

pub returns-clause-more : goal.returns-clause-more
returns-clause-more c = run-more

pub returns-clause-partway : goal.returns-clause-partway
returns-clause-partway c = partway-says
