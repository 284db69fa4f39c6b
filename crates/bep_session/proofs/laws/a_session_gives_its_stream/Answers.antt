use Rattle.bep_session.proofs.Whole.{session_gives}
use Rattle.bep_session.proofs.laws.a_session_gives_its_stream.Goals as goal

pub returns : goal.returns
returns c = session_gives
