use Rattle.std.proofs.Common.{Err, []}
use Rattle.std.proofs.KnownBytes.{Appends-nil}
use Rattle.std.specs.Prelude.{option_copied}
use Rattle.bepd_pair.specs.Playing.{WritesUnlessFailed}
use Rattle.bepd_pair.proofs.Played.{at_error, line_ended}
use Rattle.bepd_pair.proofs.playing.end_line.Goals as goal

pub returns-in_err-printed-clause-failed : goal.returns-in_err-printed-clause-failed
returns-in_err-printed-clause-failed g c =
    let out = g.W.Write.contents c.args.writer.now in
    at_error (λ failure. WritesUnlessFailed (Err failure) [] out out) c.from_residual.result _ c.from_residual.ensures.1 (Appends-nil out)

pub returns-clause-followed : goal.returns-clause-followed
returns-clause-followed g c =
    line_ended c.args.line.now c.args.peers.now c.follow_line.new.self (option_copied c.bytes.result) c.in_ok-printed.printed.items c.as_slice.result.now (g.W.Write.contents c.args.writer.now)
    (g.W.Write.contents c.write.new.writer) c.write.result c.bytes.ensures c.in_ok-printed.ensures c.as_slice.ensures.value c.write.ensures.written
