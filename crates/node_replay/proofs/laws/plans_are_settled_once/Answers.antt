use Rattle.node_replay.proofs.Twice.{once}
use Rattle.node_replay.proofs.laws.plans_are_settled_once.Goals as goal

pub returns : goal.returns
returns c = once
