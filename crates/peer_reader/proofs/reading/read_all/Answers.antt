use Rattle.std.proofs.Common.{◌≡◌, ◌<◌, [], ℕ, take, length, inl, rules, subst, arith}
use Rattle.std.specs.Io.KnownBytes.{Consumes}
use Rattle.std.proofs.KnownBytes.{Consumes-nil}
use Rattle.std.proofs.lemmas.Result.{err_from_is_err_and}
use Rattle.peer_reader.proofs.EachLemmas.{each_apart}
use Rattle.peer_reader.proofs.ReadingLemmas.{openings}
use Rattle.peer_reader.proofs.SoFarLemmas.{at_end, at_first, looked, no_more, nothing_read, of_piece, one_piece, piece_stops, reads_all, same_so_far, times_out}
use Rattle.peer_reader.proofs.reading.read_all.Goals as goal
use Rattle.peer_reader.proofs.reading.read_all.Goals.{in-Ok+in_ok-hear_piece-in-Ok, in-Err+else-not-is_for_now}

pub returns-in_err-bytes-clause-stopped : goal.returns-in_err-bytes-clause-stopped
returns-in_err-bytes-clause-stopped g c =
    let p = err_from_is_err_and c.from_residual.result c.from_residual.ensures.1 in
    rw (p.1, p.2) (inl ([], nothing_read g.W.FolderCalls.view g.W.FolderCalls.folder c.args.hearing.now.peer (g.I.Read.remaining c.args.reader.now) c.args.folders.now c.args.counts.now (Consumes-nil (g.I.Read.remaining c.args.reader.now)) c.requires.none))

pub loop-init : goal.loop-init
loop-init g c = at_first g.W.FolderCalls.view g.W.FolderCalls.folder (g.R.ReaderClock.shows c.args.rt.now) c.args.hearing.now.peer (g.I.Read.remaining c.args.reader.now) c.moment_after-moment.result c.new-session.result c.args.folders.now c.args.counts.now (Consumes-nil (g.I.Read.remaining c.args.reader.now)) c.new-session.ensures c.requires.none (search rules)

pub returns-in-Ok-eq0-clause-ended : goal.returns-in-Ok-eq0-clause-ended
returns-in-Ok-eq0-clause-ended g c =
    let none : c.in-Ok-eq0.field-0 ≡ 0 = search (rules, c.in-Ok-eq0.field-0-test) in
    let room : 0 < length c.read_some.new.buffer = omega arith in (
      at_end g.W.FolderCalls.view g.W.FolderCalls.folder (g.R.ReaderClock.shows c.args.rt.now) c.args.hearing.now.peer (g.I.Read.remaining c.args.reader.now) (g.I.Read.remaining c.loop.reader) (g.I.Read.remaining c.read_some.new.self) c.loop.session c.args.folders.now c.loop.folders c.loop.counts c.loop.moment c.loop.invariant
          (subst (λ (n : ℕ). Consumes (g.I.Read.remaining c.loop.reader) (g.I.Read.remaining c.read_some.new.self) (take n c.read_some.new.buffer)) none c.in-Ok-eq0.ensures.bytes.0),
      c.in-Ok-eq0.ensures.bytes.1 none room,
    )

pub hear_piece-requires : goal.hear_piece-requires
hear_piece-requires g c =
    each_apart g.W.FolderCalls.view g.W.FolderCalls.folder (openings c.changes_are_asked_in_order.ensures.adds) c.args.hearing.now.peer 0 _ c.args.folders.now c.loop.folders
    c.loop.invariant.heard.asks c.requires.apart

pub returns-in_err-hear_piece-in-Ok-clause-stopped : goal.returns-in_err-hear_piece-in-Ok-clause-stopped
returns-in_err-hear_piece-in-Ok-clause-stopped g c =
    let p = err_from_is_err_and c.from_residual-in_err-hear_piece-in-Ok.result c.from_residual-in_err-hear_piece-in-Ok.ensures.1 in
    rw (p.1, p.2) (piece_stops g.W.FolderCalls.view g.W.FolderCalls.folder (g.R.ReaderClock.shows c.args.rt.now) c.changes_are_asked_in_order.ensures.together c.args.hearing.now.peer (g.I.Read.remaining c.args.reader.now) (g.I.Read.remaining c.loop.reader) (g.I.Read.remaining c.read_some.new.self)
    c.loop.session c.args.folders.now c.loop.folders c.hear_piece.new.folders c.loop.counts c.hear_piece.new.counts _ _ c.in_err-hear_piece-in-Ok.field-0.0 (looked g.W.FolderCalls.view g.W.FolderCalls.folder (g.R.ReaderClock.shows c.args.rt.now) c.args.hearing.now.peer (g.I.Read.remaining c.args.reader.now) (g.I.Read.remaining c.loop.reader) c.loop.session c.args.folders.now c.loop.folders c.loop.counts c.loop.moment c.moment_after-moment-in-Ok.result c.loop.invariant c.moment_after-moment-in-Ok.ensures) c.in-Ok.ensures.bytes.0 c.in_err-hear_piece-in-Ok.ensures.stopped)

pub returns-in_err-hear_piece-in-Ok-clause-untimed : goal.returns-in_err-hear_piece-in-Ok-clause-untimed
returns-in_err-hear_piece-in-Ok-clause-untimed g c =
    let p = err_from_is_err_and c.from_residual-in_err-hear_piece-in-Ok.result c.from_residual-in_err-hear_piece-in-Ok.ensures.1 in
    rw (p.1, p.2) (of_piece g.W.FolderCalls.view g.W.FolderCalls.folder c.args.hearing.now.peer c.loop.session c.loop.folders c.hear_piece.new.folders c.loop.counts c.hear_piece.new.counts _ _ c.in_err-hear_piece-in-Ok.field-0.0 c.in_err-hear_piece-in-Ok.ensures.stopped)

pub returns-then-not-is_for_now-clause-ended : goal.returns-then-not-is_for_now-clause-ended
returns-then-not-is_for_now-clause-ended g c = (
  reads_all g.W.FolderCalls.view g.W.FolderCalls.folder (g.R.ReaderClock.shows c.args.rt.now) c.args.hearing.now.peer (g.I.Read.remaining c.args.reader.now) (g.I.Read.remaining c.read_some.new.self) c.loop.session c.args.folders.now c.loop.folders c.loop.counts c.loop.moment
      (no_more g.W.FolderCalls.view g.W.FolderCalls.folder (g.R.ReaderClock.shows c.args.rt.now) c.args.hearing.now.peer (g.I.Read.remaining c.args.reader.now) (g.I.Read.remaining c.loop.reader) (g.I.Read.remaining c.read_some.new.self) c.loop.session c.args.folders.now c.loop.folders c.loop.counts c.loop.moment c.loop.invariant c.in-Err.ensures.bytes),
  search rules,
)

pub returns-then-eq-clause-ended : goal.returns-then-eq-clause-ended
returns-then-eq-clause-ended g c =
    reads_all g.W.FolderCalls.view g.W.FolderCalls.folder (g.R.ReaderClock.shows c.args.rt.now) c.args.hearing.now.peer (g.I.Read.remaining c.args.reader.now) (g.I.Read.remaining c.read_some.new.self) c.match-read_some.session c.args.folders.now c.match-read_some.folders c.match-read_some.counts c.match-read_some.moment
    (elim c.match-read_some.branch [
      | in-Ok+in_ok-hear_piece-in-Ok w ↦
          same_so_far g.W.FolderCalls.view g.W.FolderCalls.folder (g.R.ReaderClock.shows c.args.rt.now) c.args.hearing.now.peer (g.I.Read.remaining c.args.reader.now) (g.I.Read.remaining c.read_some.new.self) w.hear_piece.new.session c.match-read_some.session c.args.folders.now
          w.hear_piece.new.folders c.match-read_some.folders w.hear_piece.new.counts c.match-read_some.counts w.moment_after-moment-in-Ok.result c.match-read_some.moment w.session-is w.folders-is w.counts-is w.moment-is
          (one_piece g.W.FolderCalls.view g.W.FolderCalls.folder (g.R.ReaderClock.shows c.args.rt.now) c.changes_are_asked_in_order.ensures.together c.args.hearing.now.peer (g.I.Read.remaining c.args.reader.now) (g.I.Read.remaining c.loop.reader) (g.I.Read.remaining c.read_some.new.self)
          c.loop.session w.hear_piece.new.session c.args.folders.now c.loop.folders w.hear_piece.new.folders c.loop.counts w.hear_piece.new.counts _ c.loop.moment w.moment_after-moment-in-Ok.result
          c.loop.invariant w.moment_after-moment-in-Ok.ensures
          w.in-Ok.ensures.bytes.0 w.in_ok-hear_piece-in-Ok.ensures.heard)
      | in-Err+else-not-is_for_now w ↦
          same_so_far g.W.FolderCalls.view g.W.FolderCalls.folder (g.R.ReaderClock.shows c.args.rt.now) c.args.hearing.now.peer (g.I.Read.remaining c.args.reader.now) (g.I.Read.remaining c.read_some.new.self) c.loop.session c.match-read_some.session c.args.folders.now
          c.loop.folders c.match-read_some.folders c.loop.counts c.match-read_some.counts w.moment_after-moment-in-Err.result c.match-read_some.moment w.session-is w.folders-is w.counts-is w.moment-is
          (looked g.W.FolderCalls.view g.W.FolderCalls.folder (g.R.ReaderClock.shows c.args.rt.now) c.args.hearing.now.peer (g.I.Read.remaining c.args.reader.now) (g.I.Read.remaining c.read_some.new.self) c.loop.session c.args.folders.now c.loop.folders c.loop.counts c.loop.moment w.moment_after-moment-in-Err.result
          (no_more g.W.FolderCalls.view g.W.FolderCalls.folder (g.R.ReaderClock.shows c.args.rt.now) c.args.hearing.now.peer (g.I.Read.remaining c.args.reader.now) (g.I.Read.remaining c.loop.reader) (g.I.Read.remaining c.read_some.new.self) c.loop.session c.args.folders.now c.loop.folders c.loop.counts c.loop.moment
          c.loop.invariant w.in-Err.ensures.bytes) w.moment_after-moment-in-Err.ensures)
    ])

pub returns-then-eq-clause-timed : goal.returns-then-eq-clause-timed
returns-then-eq-clause-timed g c =
    times_out g.W.FolderCalls.view g.W.FolderCalls.folder (g.R.ReaderClock.shows c.args.rt.now) c.args.hearing.now.peer (g.I.Read.remaining c.args.reader.now) (g.I.Read.remaining c.read_some.new.self) c.match-read_some.session c.args.folders.now c.match-read_some.folders c.match-read_some.counts c.match-read_some.moment
    (elim c.match-read_some.branch [
      | in-Ok+in_ok-hear_piece-in-Ok w ↦
          same_so_far g.W.FolderCalls.view g.W.FolderCalls.folder (g.R.ReaderClock.shows c.args.rt.now) c.args.hearing.now.peer (g.I.Read.remaining c.args.reader.now) (g.I.Read.remaining c.read_some.new.self) w.hear_piece.new.session c.match-read_some.session c.args.folders.now
          w.hear_piece.new.folders c.match-read_some.folders w.hear_piece.new.counts c.match-read_some.counts w.moment_after-moment-in-Ok.result c.match-read_some.moment w.session-is w.folders-is w.counts-is w.moment-is
          (one_piece g.W.FolderCalls.view g.W.FolderCalls.folder (g.R.ReaderClock.shows c.args.rt.now) c.changes_are_asked_in_order.ensures.together c.args.hearing.now.peer (g.I.Read.remaining c.args.reader.now) (g.I.Read.remaining c.loop.reader) (g.I.Read.remaining c.read_some.new.self)
          c.loop.session w.hear_piece.new.session c.args.folders.now c.loop.folders w.hear_piece.new.folders c.loop.counts w.hear_piece.new.counts _ c.loop.moment w.moment_after-moment-in-Ok.result
          c.loop.invariant w.moment_after-moment-in-Ok.ensures
          w.in-Ok.ensures.bytes.0 w.in_ok-hear_piece-in-Ok.ensures.heard)
      | in-Err+else-not-is_for_now w ↦
          same_so_far g.W.FolderCalls.view g.W.FolderCalls.folder (g.R.ReaderClock.shows c.args.rt.now) c.args.hearing.now.peer (g.I.Read.remaining c.args.reader.now) (g.I.Read.remaining c.read_some.new.self) c.loop.session c.match-read_some.session c.args.folders.now
          c.loop.folders c.match-read_some.folders c.loop.counts c.match-read_some.counts w.moment_after-moment-in-Err.result c.match-read_some.moment w.session-is w.folders-is w.counts-is w.moment-is
          (looked g.W.FolderCalls.view g.W.FolderCalls.folder (g.R.ReaderClock.shows c.args.rt.now) c.args.hearing.now.peer (g.I.Read.remaining c.args.reader.now) (g.I.Read.remaining c.read_some.new.self) c.loop.session c.args.folders.now c.loop.folders c.loop.counts c.loop.moment w.moment_after-moment-in-Err.result
          (no_more g.W.FolderCalls.view g.W.FolderCalls.folder (g.R.ReaderClock.shows c.args.rt.now) c.args.hearing.now.peer (g.I.Read.remaining c.args.reader.now) (g.I.Read.remaining c.loop.reader) (g.I.Read.remaining c.read_some.new.self) c.loop.session c.args.folders.now c.loop.folders c.loop.counts c.loop.moment
          c.loop.invariant w.in-Err.ensures.bytes) w.moment_after-moment-in-Err.ensures)
    ])
    (search rules)

pub loop-preserved : goal.loop-preserved
loop-preserved g c = elim c.match-read_some.branch [
  | in-Ok+in_ok-hear_piece-in-Ok w ↦
      same_so_far g.W.FolderCalls.view g.W.FolderCalls.folder (g.R.ReaderClock.shows c.args.rt.now) c.args.hearing.now.peer (g.I.Read.remaining c.args.reader.now) (g.I.Read.remaining c.read_some.new.self) w.hear_piece.new.session c.match-read_some.session c.args.folders.now
      w.hear_piece.new.folders c.match-read_some.folders w.hear_piece.new.counts c.match-read_some.counts w.moment_after-moment-in-Ok.result c.match-read_some.moment w.session-is w.folders-is w.counts-is w.moment-is
      (one_piece g.W.FolderCalls.view g.W.FolderCalls.folder (g.R.ReaderClock.shows c.args.rt.now) c.changes_are_asked_in_order.ensures.together c.args.hearing.now.peer (g.I.Read.remaining c.args.reader.now) (g.I.Read.remaining c.loop.reader) (g.I.Read.remaining c.read_some.new.self)
      c.loop.session w.hear_piece.new.session c.args.folders.now c.loop.folders w.hear_piece.new.folders c.loop.counts w.hear_piece.new.counts _ c.loop.moment w.moment_after-moment-in-Ok.result
      c.loop.invariant w.moment_after-moment-in-Ok.ensures
      w.in-Ok.ensures.bytes.0 w.in_ok-hear_piece-in-Ok.ensures.heard)
  | in-Err+else-not-is_for_now w ↦
      same_so_far g.W.FolderCalls.view g.W.FolderCalls.folder (g.R.ReaderClock.shows c.args.rt.now) c.args.hearing.now.peer (g.I.Read.remaining c.args.reader.now) (g.I.Read.remaining c.read_some.new.self) c.loop.session c.match-read_some.session c.args.folders.now
      c.loop.folders c.match-read_some.folders c.loop.counts c.match-read_some.counts w.moment_after-moment-in-Err.result c.match-read_some.moment w.session-is w.folders-is w.counts-is w.moment-is
      (looked g.W.FolderCalls.view g.W.FolderCalls.folder (g.R.ReaderClock.shows c.args.rt.now) c.args.hearing.now.peer (g.I.Read.remaining c.args.reader.now) (g.I.Read.remaining c.read_some.new.self) c.loop.session c.args.folders.now c.loop.folders c.loop.counts c.loop.moment w.moment_after-moment-in-Err.result
      (no_more g.W.FolderCalls.view g.W.FolderCalls.folder (g.R.ReaderClock.shows c.args.rt.now) c.args.hearing.now.peer (g.I.Read.remaining c.args.reader.now) (g.I.Read.remaining c.loop.reader) (g.I.Read.remaining c.read_some.new.self) c.loop.session c.args.folders.now c.loop.folders c.loop.counts c.loop.moment
      c.loop.invariant w.in-Err.ensures.bytes) w.moment_after-moment-in-Err.ensures)
]
