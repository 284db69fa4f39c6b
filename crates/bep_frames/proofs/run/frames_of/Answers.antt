use Rattle.std.proofs.Common.{◌≡◌, ℕ, ◌+◌, Vec, Global, List, drop, Ok, sym, ap, subst, ◌∙◌, arith}
use Rattle.std.specs.List.{flat_map}
use Rattle.std.proofs.lemmas.Bool.{false≢true}
use Rattle.bep_frames.specs.Stream.{stream}
use Rattle.bep_frames.specs.State.{State, start, fed, remaining, with_front, EndsAs}
use Rattle.bep_frames.proofs.Runs.{begin, begin_stops, more_given, pieces_next, whole_over, ends_stream, ends_rest, ends_fault, piece_empty, fed_empty, stays_empty}
use Rattle.bep_frames.proofs.run.frames_of.Goals as goal
use Rattle.bep_frames.proofs.run.frames_of.Goals.{then-hello_is_due, else-hello_is_due, in-None, in-Some}

abbrev bytes : Vec ℕ Global → List ℕ
bytes piece = piece.items

pub loop-piece-init : goal.loop-piece-init
loop-piece-init c =
    let is : c.if-hello_is_due.reader ≡ start c.args.hello_is_due = elim c.if-hello_is_due.branch [ then-hello_is_due w ↦ w.reader-is ∙ w.new-reader.ensures ∙ ap start (sym w.if-hello_is_due.true) | else-hello_is_due w ↦ w.reader-is ∙ w.after_hello-reader.ensures ∙ ap start (sym w.if-hello_is_due.false) ] in
    record {
      whole = begin c.args.hello_is_due c.if-hello_is_due.reader c.new-frames.result.items (flat_map bytes c.args.pieces.now) is c.new-frames.ensures.items;
      stops = begin_stops c.args.hello_is_due c.if-hello_is_due.reader is;
      empty = λ e. ap (λ (s : State). s.rest) is;
    }

pub loop-piece-preserved : goal.loop-piece-preserved
loop-piece-preserved c =
    let loop = c.loop-piece in
    let pieces = c.args.pieces.now in
    let all = stream c.args.hello_is_due (flat_map bytes pieces) in
    let next = pieces_next bytes pieces loop.piece-index c.piece-item.result c.deref.result.now (omega arith) c.piece-item.is c.deref.ensures.value in
    record {
      whole = more_given loop.reader c.feed.new.self c.take_all.new.reader loop.frames.items c.take_all.new.frames.items c.deref.result.now (flat_map bytes (drop (loop.piece-index + 1) pieces)) all c.in_ok-feed.ensures.ok c.in_ok-fault.ensures.given (ap (λ (l : List ℕ). with_front loop.frames.items (remaining (fed loop.reader l))) (sym next) ∙ loop.invariant.whole);
      stops = c.in_ok-fault.ensures.stops;
      empty = λ e.
          let none = piece_empty bytes pieces loop.piece-index c.deref.result.now (flat_map bytes (drop (loop.piece-index + 1) pieces)) next e in
          stays_empty _ _ c.in_ok-fault.ensures.shrinks (fed_empty loop.reader c.feed.new.self c.deref.result.now c.in_ok-feed.ensures.ok (loop.invariant.empty e) none);
    }

pub returns-clause-frames : goal.returns-clause-frames
returns-clause-frames c =
    let loop = c.loop-piece in
    let all = stream c.args.hello_is_due (flat_map bytes c.args.pieces.now) in
    ends_stream loop.reader loop.fault loop.invariant.stops loop.frames.items all (whole_over bytes c.args.pieces.now loop.piece-index loop.frames.items loop.reader all (omega arith) loop.invariant.whole)

pub returns-clause-end : goal.returns-clause-end
returns-clause-end c =
    let loop = c.loop-piece in
    let all = stream c.args.hello_is_due (flat_map bytes c.args.pieces.now) in
    let whole = whole_over bytes c.args.pieces.now loop.piece-index loop.frames.items loop.reader all (omega arith) loop.invariant.whole in
    elim c.match-fault.branch [
      | in-None w ↦ subst (EndsAs all.end) (sym (w.end-is ∙ ap (λ (n : ℕ). Ok n) w.rest.ensures)) (ends_rest loop.reader loop.frames.items all (rw w.in-None.is at loop.invariant.stops) whole)
      | in-Some w ↦ subst (EndsAs all.end) (sym w.end-is) (ends_fault loop.reader w.in-Some.fault loop.frames.items all (rw w.in-Some.is at loop.invariant.stops) whole)
    ]

pub returns-in_err-feed-clause-none : goal.returns-in_err-feed-clause-none
returns-in_err-feed-clause-none c = λ e.
    let pieces = c.args.pieces.now in
    let i = c.loop-piece.piece-index in
    let next = pieces_next bytes pieces i c.piece-item.result c.deref.result.now (omega arith) c.piece-item.is c.deref.ensures.value in
    absurd (false≢true (c.in_err-feed.ensures.nothing (piece_empty bytes pieces i c.deref.result.now (flat_map bytes (drop (i + 1) pieces)) next e)))

pub returns-in_err-fault-clause-none : goal.returns-in_err-fault-clause-none
returns-in_err-fault-clause-none c = λ e.
    let pieces = c.args.pieces.now in
    let i = c.loop-piece.piece-index in
    let next = pieces_next bytes pieces i c.piece-item.result c.deref.result.now (omega arith) c.piece-item.is c.deref.ensures.value in
    let none = piece_empty bytes pieces i c.deref.result.now (flat_map bytes (drop (i + 1) pieces)) next e in
    absurd (false≢true (c.in_err-fault.ensures.nothing (fed_empty c.loop-piece.reader c.feed.new.self c.deref.result.now c.in_ok-feed.ensures.ok (c.loop-piece.invariant.empty e) none)))
