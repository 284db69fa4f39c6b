use Rattle.bep_messages.proofs.Lemmas.{unknown_value, unknown_fault}
use Rattle.bep_messages.proofs.laws.unknown_fields_change_nothing.Goals as goal

pub returns-clause-value : goal.returns-clause-value
returns-clause-value c = unknown_value 0

pub returns-clause-fault : goal.returns-clause-fault
returns-clause-fault c = unknown_fault
