use Rattle.std.specs.Io.KnownBytes.{Keeps}
use Rattle.bepd_run.proofs.readiness.Readiness.write.Given as goal

-- writes that were too early took nothing
abbrev pub invariant-loop : goal.invariant-loop
invariant-loop g l = Keeps (g.W.Write.contents l.initial.to) (g.W.Write.contents l.to)
