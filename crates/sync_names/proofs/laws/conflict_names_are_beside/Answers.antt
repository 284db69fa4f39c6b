use Rattle.sync_names.proofs.Lemmas.{conflict-folder, conflict-last, conflict-other, conflict-refused}
use Rattle.sync_names.proofs.laws.conflict_names_are_beside.Goals as goal

pub returns-clause-folder : goal.returns-clause-folder
returns-clause-folder c = conflict-folder

pub returns-clause-last : goal.returns-clause-last
returns-clause-last c = conflict-last

pub returns-clause-other : goal.returns-clause-other
returns-clause-other c = conflict-other

pub returns-clause-refused : goal.returns-clause-refused
returns-clause-refused c = conflict-refused
