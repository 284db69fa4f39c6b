use Rattle.folder_calls.proofs.HistoryAnswers.{asked-adds, asked-on, change-gets}
use Rattle.folder_calls.proofs.laws.workers.changes_are_asked_in_order.Goals as goal

pub returns-clause-one : goal.returns-clause-one
returns-clause-one c = change-gets

pub returns-clause-together : goal.returns-clause-together
returns-clause-together c = asked-on

pub returns-clause-adds : goal.returns-clause-adds
returns-clause-adds c = asked-adds
