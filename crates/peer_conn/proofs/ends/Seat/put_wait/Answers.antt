use Rattle.peer_conn.proofs.Moves.{puts, waits}
use Rattle.peer_conn.proofs.ends.Seat.put_wait.Goals as goal

pub send_as-requires-clause-rule : goal.send_as-requires-clause-rule
send_as-requires-clause-rule g c = (puts _ _ _ _ c.args.self.now.is, waits _ _)
