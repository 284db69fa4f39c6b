use Rattle.folder_calls.proofs.HistoryHeadline.{headline-meets}
use Rattle.folder_calls.proofs.laws.headline.callers_who_met_know_one_history.Goals as goal

pub returns : goal.returns
returns c = headline-meets
