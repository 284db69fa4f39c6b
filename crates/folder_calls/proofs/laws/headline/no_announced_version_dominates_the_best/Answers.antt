use Rattle.folder_calls.proofs.HistoryHeadline.{headline-best}
use Rattle.folder_calls.proofs.laws.headline.no_announced_version_dominates_the_best.Goals as goal

pub returns : goal.returns
returns c = headline-best
