use Rattle.std.proofs.Common.{◌≡◌, map, take}
use Rattle.node_replay.specs.Told.{plan_of}
use Rattle.bepd_run.proofs.plans.written_plans.Given as goal

abbrev pub invariant-loop-plan : goal.invariant-loop-plan
invariant-loop-plan l = record { each : map plan_of l.written ≡ take l.plan-index l.plans }
