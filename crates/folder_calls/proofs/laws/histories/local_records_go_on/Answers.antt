use Rattle.folder_calls.proofs.HistoryFronts.{history-last, history-on}
use Rattle.folder_calls.proofs.laws.histories.local_records_go_on.Goals as goal

pub returns-clause-records : goal.returns-clause-records
returns-clause-records c = λ passes s es n legal. history-on passes s es legal n

pub returns-clause-last : goal.returns-clause-last
returns-clause-last c = history-last
