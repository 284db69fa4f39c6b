use Rattle.folder_calls.proofs.HistoryEntries.{end-fits, shared-full, shared-same, shared-room}
use Rattle.folder_calls.proofs.laws.histories.histories_keep_room.Goals as goal

pub returns-clause-full : goal.returns-clause-full
returns-clause-full c = shared-full

pub returns-clause-answered : goal.returns-clause-answered
returns-clause-answered c = shared-same

pub returns-clause-left : goal.returns-clause-left
returns-clause-left c = shared-room

pub returns-clause-ends : goal.returns-clause-ends
returns-clause-ends c = λ limit s es change kept ends. end-fits limit s es kept change ends
