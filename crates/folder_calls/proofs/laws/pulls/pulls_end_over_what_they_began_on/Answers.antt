use Rattle.folder_calls.proofs.HistoryWords.{pull-over}
use Rattle.folder_calls.proofs.laws.pulls.pulls_end_over_what_they_began_on.Goals as goal

pub returns : goal.returns
returns c = pull-over
