use Rattle.std.specs.Prelude.{None, Some}
use Rattle.folder_calls.proofs.HistoryWords.{change-own, change-own_from, read-own, read-own_from}
use Rattle.folder_calls.proofs.laws.planned.calls_without_a_plan_are_the_callers.Goals as goal

pub returns-clause-changes : goal.returns-clause-changes
returns-clause-changes c = λ old new x reply none. (change-own old new none x (Some reply), change-own_from old new none x (Some reply))

pub returns-clause-reads : goal.returns-clause-reads
returns-clause-reads c = λ old new q reply none. (read-own old new none q (Some reply), read-own_from old new none q (Some reply))

pub returns-clause-out_of_memory : goal.returns-clause-out_of_memory
returns-clause-out_of_memory c = λ old new x q none. (
  (change-own old new none x None, change-own_from old new none x None),
  (read-own old new none q None, read-own_from old new none q None),
)
