use Rattle.sync_names.proofs.Lemmas.{temporary-folder, temporary-last, temporary-internal, temporary-apart, temporary-one_each}
use Rattle.sync_names.proofs.laws.temporary_names_are_apart.Goals as goal

pub returns-clause-folder : goal.returns-clause-folder
returns-clause-folder c = temporary-folder

pub returns-clause-last : goal.returns-clause-last
returns-clause-last c = temporary-last

pub returns-clause-internal : goal.returns-clause-internal
returns-clause-internal c = temporary-internal

pub returns-clause-apart : goal.returns-clause-apart
returns-clause-apart c = temporary-apart

pub returns-clause-one_each : goal.returns-clause-one_each
returns-clause-one_each c = temporary-one_each
