use Rattle.peer_conn.proofs.Moves.{puts, waits}
use Rattle.peer_conn.proofs.ends.Seat.put.Goals as goal

pub try_send_as-requires-clause-rule : goal.try_send_as-requires-clause-rule
try_send_as-requires-clause-rule g c = (puts _ _ _ _ c.args.self.now.is, waits _ _)
