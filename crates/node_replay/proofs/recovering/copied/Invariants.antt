use Rattle.std.proofs.Common.{◌≡◌, take}
use Rattle.std.specs.FinMap.{get}
use Rattle.sync_record.specs.Devices.{Identity}
use Rattle.node_replay.proofs.Peers.{seen}
use Rattle.node_replay.proofs.recovering.copied.Given as goal

abbrev pub invariant-loop-kept : goal.invariant-loop-kept
invariant-loop-kept l = (d : Identity) → get l.copy d ≡ seen d (take l.kept-index l.kept-items)
