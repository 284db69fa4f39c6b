use Rattle.peer_conn.proofs.Moves.{always_begins}
use Rattle.peer_conn.proofs.rule.law.Goals as goal

pub returns : goal.returns
returns c = λ items views. always_begins items views
