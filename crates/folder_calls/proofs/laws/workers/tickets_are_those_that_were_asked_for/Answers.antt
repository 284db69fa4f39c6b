use Rattle.folder_calls.proofs.HistoryAnswers.{begun-name, entered-ticket}
use Rattle.folder_calls.proofs.laws.workers.tickets_are_those_that_were_asked_for.Goals as goal

pub returns-clause-begun : goal.returns-clause-begun
returns-clause-begun c = begun-name

pub returns-clause-entered : goal.returns-clause-entered
returns-clause-entered c = entered-ticket
