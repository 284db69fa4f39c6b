use Rattle.folder_calls.proofs.HistoryWords.{begins-from, begins-to, ends-from, ends-to, enters-from, enters-to}
use Rattle.folder_calls.proofs.laws.pulls.entries_of_pulls_are_of_their_name.Goals as goal

pub returns-clause-begins : goal.returns-clause-begins
returns-clause-begins c = λ n a. (begins-to n a, begins-from n a)

pub returns-clause-enters : goal.returns-clause-enters
returns-clause-enters c = λ n a. (enters-to n a, enters-from n a)

pub returns-clause-ends : goal.returns-clause-ends
returns-clause-ends c = λ n e. (ends-to n e, ends-from n e)
