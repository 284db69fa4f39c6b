use Rattle.bep_session.proofs.Feeds.{fed_over}
use Rattle.bep_session.proofs.laws.nothing_after_the_end.Goals as goal

pub returns : goal.returns
returns c = fed_over
