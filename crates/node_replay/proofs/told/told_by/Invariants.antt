use Rattle.std.proofs.Common.{◌≡◌, map, take}
use Rattle.std.specs.List.{AllByRecursion}
use Rattle.node_replay.specs.Clear.{IsClearPart}
use Rattle.node_replay.specs.Told.{plans_told, records_told}
use Rattle.node_replay.specs.declared.fault.RecoverFault.TheVariants.{UnsafeName, BadPlan}
use Rattle.node_replay.proofs.told.told_by.Given as goal

abbrev pub invariant-loop-part : goal.invariant-loop-part
invariant-loop-part l = record {
  records : l.told.records.items ≡ records_told (map (λ p. p.now) (take l.part-index l.parts));
  plans : l.told.plans.items ≡ plans_told (map (λ p. p.now) (take l.part-index l.parts));
  safe : AllByRecursion (IsClearPart UnsafeName) (map (λ p. p.now) (take l.part-index l.parts));
  pullable : AllByRecursion (IsClearPart BadPlan) (map (λ p. p.now) (take l.part-index l.parts));
}
