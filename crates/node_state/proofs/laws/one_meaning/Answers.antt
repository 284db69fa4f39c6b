use Rattle.node_state.proofs.Versions.{one}
use Rattle.node_state.proofs.laws.one_meaning.Goals as goal

pub returns : goal.returns
returns c = one
