use Rattle.folder_core.proofs.PullStages.{give_up-closes, abort-closes}
use Rattle.folder_core.proofs.ChangeAnswers.{finish-done, finish-stray, give_up-closed, give_up-stray, abort-closed, abort-stray}
use Rattle.folder_core.proofs.laws.pulls.pulls_end_by_their_tickets.Goals as goal

pub returns-clause-done : goal.returns-clause-done
returns-clause-done c = finish-done

pub returns-clause-no_commit : goal.returns-clause-no_commit
returns-clause-no_commit c = finish-stray

pub returns-clause-given_up : goal.returns-clause-given_up
returns-clause-given_up c = give_up-closed

pub returns-clause-none_to_give_up : goal.returns-clause-none_to_give_up
returns-clause-none_to_give_up c = give_up-stray

pub returns-clause-aborted : goal.returns-clause-aborted
returns-clause-aborted c = abort-closed

pub returns-clause-none_to_abort : goal.returns-clause-none_to_abort
returns-clause-none_to_abort c = abort-stray

pub returns-clause-none_after_giving_up : goal.returns-clause-none_after_giving_up
returns-clause-none_after_giving_up c = give_up-closes

pub returns-clause-none_after_abort : goal.returns-clause-none_after_abort
returns-clause-none_after_abort c = abort-closes
