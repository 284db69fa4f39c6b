use Rattle.bep_session.proofs.Open.{open-closed, open-opened}
use Rattle.bep_session.proofs.laws.ids_that_are_open.Goals as goal

pub returns-clause-opened : goal.returns-clause-opened
returns-clause-opened c = open-opened

pub returns-clause-closed : goal.returns-clause-closed
returns-clause-closed c = open-closed
