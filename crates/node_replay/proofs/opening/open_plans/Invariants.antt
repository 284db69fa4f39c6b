use Rattle.std.proofs.Common.{◌≡◌, ◌++◌, reverse}
use Rattle.node_replay.proofs.LastPlans.{HasNames}
use Rattle.node_replay.specs.Open.{open_plans}
use Rattle.node_replay.proofs.opening.open_plans.Given as goal

abbrev pub invariant-loop-plan : goal.invariant-loop-plan
invariant-loop-plan g l = record {
  names : HasNames l.names (reverse l.yielded);
  left : reverse l.left.items ≡ open_plans (g.F.FolderCore.state l.folder) (reverse l.yielded);
  divided : reverse l.fn.plans ≡ l.yielded ++ l.plan-iterator.rest.items;
}
