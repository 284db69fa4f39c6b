use Rattle.sync_names.proofs.Lemmas.{replaced-folder, replaced-last, replaced-internal, replaced-apart, replaced-one_each}
use Rattle.sync_names.proofs.laws.replaced_names_are_apart.Goals as goal

pub returns-clause-folder : goal.returns-clause-folder
returns-clause-folder c = replaced-folder

pub returns-clause-last : goal.returns-clause-last
returns-clause-last c = replaced-last

pub returns-clause-internal : goal.returns-clause-internal
returns-clause-internal c = replaced-internal

pub returns-clause-apart : goal.returns-clause-apart
returns-clause-apart c = replaced-apart

pub returns-clause-one_each : goal.returns-clause-one_each
returns-clause-one_each c = replaced-one_each
