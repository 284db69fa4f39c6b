use Rattle.std.specs.Io.KnownBytes.{Keeps}
use Rattle.bepd_pair.proofs.playing.read.Given as goal

-- an interrupted read takes nothing
abbrev pub invariant-loop : goal.invariant-loop
invariant-loop g l = Keeps (g.R.Read.remaining l.initial.reader) (g.R.Read.remaining l.reader)
