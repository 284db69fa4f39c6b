-- The devices so far were asked in vain.
use Rattle.std.proofs.Common.{take}
use Rattle.sync_pull.specs.Sources.{AskedInVain, AsksOnly}
use Rattle.sync_pull.proofs.fetch.ask_devices.Given as goal

abbrev pub invariant-loop-i : goal.invariant-loop-i
invariant-loop-i g l = record {
  asks : AsksOnly g.B.BlockSource.gives l.fetch.name.now l.initial.source l.source;
  vain : AskedInVain g.B.BlockSource.gives l.fetch.me l.fetch.name.now l.block (take l.i l.fetch.devices.now) l.source;
}
