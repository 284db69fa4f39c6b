use Rattle.std.proofs.Common.{◌≡◌, map, take}
use Rattle.std.specs.Prelude.{◌≢◌}
use Rattle.std.specs.List.{AllByRecursion}
use Rattle.node_replay.specs.Clear.{IsClear}
use Rattle.node_replay.specs.Recovered.{IsRecoveredFolder}
use Rattle.node_replay.specs.declared.fault.RecoverFault.{RecoverFault}
use Rattle.node_replay.specs.declared.fault.RecoverFault.TheVariants.{OutOfMemory}
use Rattle.node_replay.proofs.recovering.recover.Given as goal

abbrev pub invariant-loop-id : goal.invariant-loop-id
invariant-loop-id l = record {
  ids : map (λ r. r.stored.id) l.folders ≡ take l.id-index l.id-items;
  each : AllByRecursion (IsRecoveredFolder l.me l.state l.frames) l.folders;
  clear : (e : RecoverFault) → e ≢ OutOfMemory → AllByRecursion (IsClear e l.me l.state l.frames) (take l.id-index l.id-items);
}
