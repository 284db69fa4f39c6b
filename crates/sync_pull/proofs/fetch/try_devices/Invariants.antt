-- Nothing was put yet, and the devices so far have no bytes of the block.
use Rattle.std.proofs.Common.{◌≡◌, take}
use Rattle.sync_pull.specs.Sources.{AsksOnly, HasNoBytes}
use Rattle.sync_pull.proofs.fetch.try_devices.Given as goal

abbrev pub invariant-loop-i : goal.invariant-loop-i
invariant-loop-i g l = record {
  same : l.assembly ≡ l.initial.assembly;
  asks : AsksOnly g.B.BlockSource.gives l.fetch.name.now l.initial.source l.source;
  none : HasNoBytes g.B.BlockSource.gives l.fetch.me l.fetch.name.now (take l.i l.fetch.devices.now) l.source l.block;
}
