use Rattle.peer_conn.proofs.Moves.{takes, tells}
use Rattle.peer_conn.proofs.Told.{empties}
use Rattle.peer_conn.proofs.ends.Taker.take_named.Goals as goal

pub try_recv_as-requires-clause-rule : goal.try_recv_as-requires-clause-rule
try_recv_as-requires-clause-rule g c = let may = c.args.self.now.is in (takes _ _ may, tells _ _ may)

pub returns-in-Err-clause-none : goal.returns-in-Err-clause-none
returns-in-Err-clause-none g c = let r = c.in-Err.ensures.rule in empties _ _ r.0 r.1
