use Rattle.std.proofs.KnownBytes.{Appends-nil}
use Rattle.bepd_pair.specs.declared.playing.PairFailure.TheVariants.{OutOfMemory}
use Rattle.bepd_pair.proofs.Played.{FailsAfter, at_error, played_byte, played_line, stops_here}
use Rattle.bepd_pair.proofs.playing.take_byte.Goals as goal

pub returns-in_err-end_line-clause-failed : goal.returns-in_err-end_line-clause-failed
returns-in_err-end_line-clause-failed g c =
    let out = g.W.Write.contents c.args.writer.now in
    let to = g.W.Write.contents c.end_line.new.writer in
    at_error (FailsAfter c.args.line.now c.args.peers.now out to) c.from_residual.result c.in_err-end_line.field-0.0 c.from_residual.ensures.1
    (stops_here c.args.line.now c.args.peers.now out to c.in_err-end_line.field-0.0 c.in_err-end_line.ensures.failed)

pub returns-in_err-push-clause-failed : goal.returns-in_err-push-clause-failed
returns-in_err-push-clause-failed g c =
    let out = g.W.Write.contents c.args.writer.now in
    at_error (FailsAfter c.args.line.now c.args.peers.now out out) c.from_residual-in_err-push.result OutOfMemory c.from_residual-in_err-push.ensures.1
    (stops_here c.args.line.now c.args.peers.now out out OutOfMemory (Appends-nil out))

pub returns-in_ok-end_line-clause-taken : goal.returns-in_ok-end_line-clause-taken
returns-in_ok-end_line-clause-taken g c = λ start bytes out h.
    rw c.if-byte-eq10.true (played_line start bytes c.args.line.now c.clear.new.self c.args.peers.now out (g.W.Write.contents c.args.writer.now) h c.end_line.new.peers (g.W.Write.contents c.end_line.new.writer)
    c.in_ok-end_line.ensures.followed c.clear.ensures)

pub returns-in_ok-push-clause-taken : goal.returns-in_ok-push-clause-taken
returns-in_ok-push-clause-taken g c = λ start bytes out h.
    played_byte start bytes c.args.line.now c.push.new.self c.args.peers.now out (g.W.Write.contents c.args.writer.now) h c.args.byte c.if-byte-eq10.false c.in_ok-push.ensures
