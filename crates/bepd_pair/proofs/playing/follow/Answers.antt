use Rattle.std.proofs.Common.{rules, ◌≡◌, ◌++◌, ◌∙◌, [], Err, ap, sym, subst, take, length}
use Rattle.std.proofs.KnownBytes.{Appends-nil, Consumes-kept, Consumes-nil, Consumes-trans}
use Rattle.bepd_pair.specs.declared.playing.PairFailure.TheVariants.{OutOfMemory, Read}
use Rattle.bepd_pair.specs.Playing.{FollowsBytes, WritesUnlessFailed}
use Rattle.bepd_pair.proofs.Played.{failed_as, played_none, read_none, stops, stops_here}
use Rattle.bepd_pair.proofs.playing.follow.Goals as goal

pub returns-in_err-bytes-clause-follows : goal.returns-in_err-bytes-clause-follows
returns-in_err-bytes-clause-follows g c =
    let out = g.W.Write.contents c.args.writer.now in
    let peers = c.args.peers.now in (
      [],
      Consumes-nil (g.R.Read.remaining c.args.reader.now),
      failed_as (λ r. FollowsBytes r peers [] out out) c.from_residual.result OutOfMemory c.from_residual.ensures.1
          (stops_here c.new-line.result peers out out OutOfMemory (Appends-nil out) peers [] out (played_none peers c.new-line.result out c.new-line.ensures)),
    )

pub loop-init : goal.loop-init
loop-init g c = record {
  bytes = [];
  taken = Consumes-nil (g.R.Read.remaining c.args.reader.now);
  played = played_none c.args.peers.now c.new-line.result (g.W.Write.contents c.args.writer.now) c.new-line.ensures;
  buffer = ap length c.as_mut_slice-buffer.ensures.value ∙ c.in_ok-bytes.ensures;
}

pub returns-in_err-count-clause-follows : goal.returns-in_err-count-clause-follows
returns-in_err-count-clause-follows g c =
    let so_far = c.loop.invariant in
    let out = g.W.Write.contents c.args.writer.now in
    let mid = g.W.Write.contents c.loop.writer in
    let failure = c.in_err-count.field-0.0 in
    let w : WritesUnlessFailed (Err failure) [] mid mid = subst (λ f. WritesUnlessFailed (Err f) [] mid mid) (sym c.in_err-count.ensures.0) (Appends-nil mid) in (
      so_far.bytes,
      Consumes-kept _ _ _ so_far.bytes so_far.taken c.in_err-count.ensures.1,
      failed_as (λ r. FollowsBytes r c.args.peers.now so_far.bytes out mid) c.from_residual-in_err-count.result failure c.from_residual-in_err-count.ensures.1
          (stops_here c.loop.line c.loop.peers mid mid failure w c.args.peers.now so_far.bytes out so_far.played),
    )

pub returns-then-count-eq0-clause-follows : goal.returns-then-count-eq0-clause-follows
returns-then-count-eq0-clause-follows g c =
    let so_far = c.loop.invariant in (
      so_far.bytes,
      read_none _ _ _ so_far.bytes c.read.new.buffer c.in_ok-count.count c.if-count-eq0.true so_far.taken c.in_ok-count.ensures.1,
      c.end.ensures c.args.peers.now so_far.bytes (g.W.Write.contents c.args.writer.now) so_far.played,
    )

pub returns-then-total-gt-MAX_INPUT_BYTES-clause-follows : goal.returns-then-total-gt-MAX_INPUT_BYTES-clause-follows
returns-then-total-gt-MAX_INPUT_BYTES-clause-follows g c =
    let so_far = c.loop.invariant in
    let out = g.W.Write.contents c.args.writer.now in
    let mid = g.W.Write.contents c.loop.writer in
    let piece = take c.in_ok-count.count c.read.new.buffer in (
      so_far.bytes ++ piece,
      Consumes-trans _ _ _ so_far.bytes piece so_far.taken c.in_ok-count.ensures.1,
      stops c.args.peers.now so_far.bytes c.loop.line c.loop.line c.loop.peers out mid so_far.played Read mid piece (Appends-nil mid),
    )

pub returns-in_err-take-clause-follows : goal.returns-in_err-take-clause-follows
returns-in_err-take-clause-follows g c =
    let so_far = c.loop.invariant in
    let out = g.W.Write.contents c.args.writer.now in
    let to = g.W.Write.contents c.take.new.writer in
    let piece = take c.in_ok-count.count c.read.new.buffer in (
      so_far.bytes ++ piece,
      Consumes-trans _ _ _ so_far.bytes piece so_far.taken c.in_ok-count.ensures.1,
      failed_as (λ r. FollowsBytes r c.args.peers.now (so_far.bytes ++ piece) out to) c.from_residual-in_err-take.result c.in_err-take.field-0.0 c.from_residual-in_err-take.ensures.1
          (c.in_err-take.ensures.failed c.args.peers.now so_far.bytes out so_far.played),
    )

pub loop-preserved : goal.loop-preserved
loop-preserved g c =
    let so_far = c.loop.invariant in
    let piece = take c.in_ok-count.count c.read.new.buffer in
    let kept : length c.read.new.buffer ≡ length c.loop.buffer = search rules in
    record {
      bytes = so_far.bytes ++ piece;
      taken = Consumes-trans _ _ _ so_far.bytes piece so_far.taken c.in_ok-count.ensures.1;
      played = c.in_ok-take.ensures.taken c.args.peers.now so_far.bytes (g.W.Write.contents c.args.writer.now) so_far.played;
      buffer = kept ∙ so_far.buffer;
    }

pub returns-clause-follows : goal.returns-clause-follows
returns-clause-follows g c =
    let so_far = c.loop.invariant in
    let mid = g.W.Write.contents c.loop.writer in (
      so_far.bytes,
      so_far.taken,
      stops_here c.loop.line c.loop.peers mid mid Read (Appends-nil mid) c.args.peers.now so_far.bytes (g.W.Write.contents c.args.writer.now) so_far.played,
    )
