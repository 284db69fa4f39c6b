use Rattle.folder_calls.proofs.HistoryWords.{plan-later, plan-later_from, plan-now, plan-now_from}
use Rattle.folder_calls.proofs.laws.planned.planned_changes_are_made_before_their_call.Goals as goal

pub returns-clause-nothing : goal.returns-clause-nothing
returns-clause-nothing c = λ old new. (λ x. x, λ x. x)

pub returns-clause-later : goal.returns-clause-later
returns-clause-later c = λ p old new more. (plan-later p old new more, plan-later_from p old new more)

pub returns-clause-now : goal.returns-clause-now
returns-clause-now c = λ p old new less. (plan-now p old new less, plan-now_from p old new less)
