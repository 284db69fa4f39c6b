use Rattle.std.proofs.Common.{◌≡◌, ◌++◌, map, take}
use Rattle.std.specs.List.{AllByRecursion}
use Rattle.node_replay.specs.Clear.{IsClearPlan}
use Rattle.node_replay.specs.Told.{plan_of}
use Rattle.node_replay.specs.declared.fault.RecoverFault.TheVariants.{UnsafeName, BadPlan}
use Rattle.node_replay.proofs.told.add_plans.Given as goal

abbrev pub invariant-loop-plan : goal.invariant-loop-plan
invariant-loop-plan l = record {
  ok : l.plans.items ≡ l.fn.plans.items ++ map plan_of (take l.plan-index l.more);
  safe : AllByRecursion (IsClearPlan UnsafeName) (take l.plan-index l.more);
  pullable : AllByRecursion (IsClearPlan BadPlan) (take l.plan-index l.more);
}
