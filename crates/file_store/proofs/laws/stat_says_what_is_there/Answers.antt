use Rattle.file_store.proofs.LawLemmas.{stat_says}
use Rattle.file_store.proofs.laws.stat_says_what_is_there.Goals as goal

pub returns : goal.returns
returns c = stat_says
