use Rattle.folder_core.proofs.RunsSay.{allocates-from, allocates-to, copies-from, copies-to}
use Rattle.folder_core.proofs.laws.runs.few_answers_allocate.Goals as goal

pub returns-clause-calls : goal.returns-clause-calls
returns-clause-calls c = λ a. (allocates-to a, allocates-from a)

pub returns-clause-copies : goal.returns-clause-copies
returns-clause-copies c = λ a. (copies-to a, copies-from a)
