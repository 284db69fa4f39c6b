use Rattle.bep_wire.proofs.Lemmas.{joined_items, joined_fault}
use Rattle.bep_wire.proofs.laws.joined_fields.Goals as goal

pub returns-clause-items : goal.returns-clause-items
returns-clause-items c = joined_items

pub returns-clause-fault : goal.returns-clause-fault
returns-clause-fault c = joined_fault
