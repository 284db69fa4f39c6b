use Rattle.folder_calls.proofs.HistoryFronts.{front-room, legal-divided, legal-together, own-divided, state-divided, view-front}
use Rattle.folder_calls.proofs.laws.histories.histories_may_be_divided.Goals as goal

pub returns-clause-legal : goal.returns-clause-legal
returns-clause-legal c = λ passes s es fs. (legal-divided passes s es fs, λ both. legal-together passes s es fs both.0 both.1)

pub returns-clause-leads : goal.returns-clause-leads
returns-clause-leads c = state-divided

pub returns-clause-own : goal.returns-clause-own
returns-clause-own c = own-divided

pub returns-clause-room : goal.returns-clause-room
returns-clause-room c = front-room

pub returns-clause-view : goal.returns-clause-view
returns-clause-view c = view-front
