use Rattle.std.proofs.KnownBytes.{Keeps-refl}
use Rattle.bepd_pair.proofs.Played.{kept_then}
use Rattle.bepd_pair.proofs.playing.read.Goals as goal

pub loop-init : goal.loop-init
loop-init g c = Keeps-refl (g.R.Read.remaining c.args.reader.now)

pub returns-in-Ok : goal.returns-in-Ok
returns-in-Ok g c =
    (c.in-Ok.ensures.bound.0, kept_then _ _ _ _ c.loop.invariant c.in-Ok.ensures.bytes.0, c.in-Ok.ensures.bytes.1)
