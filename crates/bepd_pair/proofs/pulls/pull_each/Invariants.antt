use Rattle.std.proofs.Common.{take}
use Rattle.bepd_pair.proofs.Pulling.{PullsSoFar}
use Rattle.bepd_pair.proofs.pulls.pull_each.Given as goal

-- the names so far were pulled
abbrev pub invariant-loop-name : goal.invariant-loop-name
invariant-loop-name g l = PullsSoFar l.cx.moment (take l.name-index l.names) l.initial.peer l.initial.lines.items l.lines.items l.peer
