use Rattle.std.proofs.Common.{◌≡◌, ◌++◌, map, take}
use Rattle.std.specs.List.{AllByRecursion}
use Rattle.sync_record.specs.Infos.{record_of}
use Rattle.node_replay.specs.Clear.{IsClearRecord}
use Rattle.node_replay.specs.declared.fault.RecoverFault.TheVariants.{UnsafeName}
use Rattle.node_replay.proofs.told.add_records.Given as goal

abbrev pub invariant-loop-info : goal.invariant-loop-info
invariant-loop-info l = record {
  ok : l.records.items ≡ l.fn.records.items ++ map record_of (take l.info-index l.infos);
  safe : AllByRecursion (IsClearRecord UnsafeName) (take l.info-index l.infos);
}
