use Rattle.folder_calls.proofs.HistoryHeadline.{headline-sequence}
use Rattle.folder_calls.proofs.laws.headline.each_sequence_is_the_next.Goals as goal

pub returns : goal.returns
returns c = headline-sequence
