use Rattle.std.proofs.Common.{take}
use Rattle.node_replay.proofs.Turns.{IsUnderWay}
use Rattle.node_replay.proofs.settling.settle.Given as goal

abbrev pub invariant-loop-plan : goal.invariant-loop-plan
invariant-loop-plan g l = IsUnderWay g.D.Disk.tells l.fn.folder.folder l.fn.disk (take l.plan-index l.plans) l.finished l.disk
