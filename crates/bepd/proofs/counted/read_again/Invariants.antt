use Rattle.std.specs.Io.KnownBytes.{Keeps}
use Rattle.bepd.proofs.counted.read_again.Given as goal

-- reads that were interrupted gave nothing
abbrev pub invariant-loop : goal.invariant-loop
invariant-loop g l = Keeps (g.R.Read.remaining l.initial.reader) (g.R.Read.remaining l.reader)
