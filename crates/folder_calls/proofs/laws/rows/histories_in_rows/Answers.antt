use Rattle.folder_calls.proofs.Rows.{history-2, history-3, history-4}
use Rattle.folder_calls.proofs.laws.rows.histories_in_rows.Goals as goal

pub returns-clause-two : goal.returns-clause-two
returns-clause-two c = history-2

pub returns-clause-three : goal.returns-clause-three
returns-clause-three c = history-3

pub returns-clause-four : goal.returns-clause-four
returns-clause-four c = history-4
