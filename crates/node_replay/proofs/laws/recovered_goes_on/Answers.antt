use Rattle.node_replay.proofs.Together.{together}
use Rattle.node_replay.proofs.laws.recovered_goes_on.Goals as goal

pub returns : goal.returns
returns c = λ me state front rest before behind first second. together me state front rest before first behind second
