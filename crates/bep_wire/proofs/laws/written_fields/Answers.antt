use Rattle.bep_wire.proofs.Lemmas.{number_again, bytes_again}
use Rattle.bep_wire.proofs.laws.written_fields.Goals as goal

pub returns-clause-number : goal.returns-clause-number
returns-clause-number c = number_again

pub returns-clause-bytes : goal.returns-clause-bytes
returns-clause-bytes c = bytes_again
