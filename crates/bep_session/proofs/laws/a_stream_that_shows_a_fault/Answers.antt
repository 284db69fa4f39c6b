use Rattle.bep_session.proofs.Shown.{fault_ends, same_name, same_number}
use Rattle.bep_session.proofs.laws.a_stream_that_shows_a_fault.Goals as goal

pub returns-clause-ends : goal.returns-clause-ends
returns-clause-ends c = fault_ends

pub returns-clause-number : goal.returns-clause-number
returns-clause-number c = same_number

pub returns-clause-name : goal.returns-clause-name
returns-clause-name c = same_name
