use Rattle.peer_conn.proofs.Moves.{takes_in}
use Rattle.peer_conn.proofs.ends.Taker.take_in.Goals as goal

pub absorb-requires-clause-rule : goal.absorb-requires-clause-rule
absorb-requires-clause-rule g c = takes_in _ _ _ _
