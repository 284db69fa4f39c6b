use Rattle.bepd_pair.proofs.Played.{FailsWith, at_error, fails_after_part}
use Rattle.bepd_pair.proofs.playing.take.Goals as goal

pub returns-in_err-take_byte-clause-failed : goal.returns-in_err-take_byte-clause-failed
returns-in_err-take_byte-clause-failed g c =
    let out = g.W.Write.contents c.args.writer.now in
    let mid = g.W.Write.contents c.loop-byte.writer in
    let to = g.W.Write.contents c.take_byte.new.writer in
    at_error (FailsWith c.args.line.now c.args.peers.now c.args.piece.now out to) c.from_residual.result c.in_err-take_byte.field-0.0 c.from_residual.ensures.1
    (fails_after_part c.args.line.now c.loop-byte.line c.args.peers.now c.loop-byte.peers c.args.piece.now c.loop-byte.byte-index out mid to c.in_err-take_byte.field-0.0 c.loop-byte.invariant c.in_err-take_byte.ensures.failed)
