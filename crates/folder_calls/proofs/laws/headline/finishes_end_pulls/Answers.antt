use Rattle.folder_calls.proofs.HistoryHeadline.{headline-finish}
use Rattle.folder_calls.proofs.laws.headline.finishes_end_pulls.Goals as goal

pub returns : goal.returns
returns c = headline-finish
