use Rattle.node_state.proofs.Versions.{closed-state}
use Rattle.node_state.proofs.laws.a_closed_state_is_written_whole.Goals as goal

pub returns : goal.returns
returns c = closed-state
