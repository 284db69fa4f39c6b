use Rattle.folder_core.proofs.PullCopies.{copy-due}
use Rattle.folder_core.proofs.laws.pulls.copies_are_due_in_conflict.Goals as goal

pub returns : goal.returns
returns c = copy-due
