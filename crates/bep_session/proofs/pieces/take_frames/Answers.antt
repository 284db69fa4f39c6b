use Rattle.std.proofs.Common.{Vec, Global, ◌≡◌, ◌++◌, List, sym, ap, ◌∙◌, rules}
use Rattle.std.specs.Option.{option_to_list}
use Rattle.bep_frames.proofs.Lemmas.{given_shorter}
use Rattle.bep_session.specs.declared.event.Event.{Event}
use Rattle.bep_session.specs.declared.conversation.Stage.TheVariants.{Over}
use Rattle.bep_session.proofs.Outcomes.{begins, goes_on, cut_more, on_err, pushed_none, pushed_some, reads_none, reads_over, reads_fault}
use Rattle.bep_session.proofs.pieces.take_frames.Goals as goal
use Rattle.bep_session.proofs.pieces.take_frames.Goals.{in-Some-receive+in_ok-push-in-Ok, in_default-receive}

abbrev items : Vec Event Global → List Event
items events = events.items

pub loop-answer-init : goal.loop-answer-init
loop-answer-init c = record {
  so_far = begins c.args.moment c.args.reader.now c.args.conversation.now c.args.events.now.items c.requires.sound;
  live = c.requires.live;
}

pub loop-answer-smaller : goal.loop-answer-smaller
loop-answer-smaller c =
    let gives = rw c.in-Ok.is at c.in-Some.ensures in
    given_shorter c.loop-answer.reader c.next.new.self c.in-Ok.frame gives

pub loop-answer-preserved : goal.loop-answer-preserved
loop-answer-preserved c =
    let gives = rw c.in-Ok.is at c.in-Some.ensures in
    let loop = c.loop-answer in
    let pushed : c.match-receive.events.items ≡ loop.events.items ++ option_to_list c.receive.result = elim c.match-receive.branch [
      | in-Some-receive+in_ok-push-in-Ok w ↦ pushed_some loop.events.items c.match-receive.events.items w.in-Some-receive.event c.receive.result
          (ap items w.events-is ∙ w.in_ok-push-in-Ok.ensures.items) w.in-Some-receive.is
      | in_default-receive w ↦ pushed_none loop.events.items c.match-receive.events.items c.receive.result (ap items w.events-is) w.in_default-receive.is
    ] in
    record {
      so_far = goes_on c.args.moment c.args.reader.now c.args.conversation.now c.args.events.now.items
          loop.reader c.next.new.self loop.conversation c.receive.new.self loop.events.items c.match-receive.events.items c.in-Ok.frame c.receive.result
          loop.invariant.so_far gives c.receive.ensures pushed;
      live = search rules;
    }

pub returns-then-eq-clause-ok : goal.returns-then-eq-clause-ok
returns-then-eq-clause-ok c =
    let gives = rw c.in-Ok.is at c.in-Some.ensures in
    let loop = c.loop-answer in
    let pushed : c.match-receive.events.items ≡ loop.events.items ++ option_to_list c.receive.result = elim c.match-receive.branch [
      | in-Some-receive+in_ok-push-in-Ok w ↦ pushed_some loop.events.items c.match-receive.events.items w.in-Some-receive.event c.receive.result
          (ap items w.events-is ∙ w.in_ok-push-in-Ok.ensures.items) w.in-Some-receive.is
      | in_default-receive w ↦ pushed_none loop.events.items c.match-receive.events.items c.receive.result (ap items w.events-is) w.in_default-receive.is
    ] in
    let closed : c.receive.new.self.stage ≡ Over = search rules in
    reads_over c.args.moment c.args.reader.now c.args.conversation.now c.args.events.now.items c.next.new.self c.receive.new.self c.match-receive.events.items
    (goes_on c.args.moment c.args.reader.now c.args.conversation.now c.args.events.now.items
    loop.reader c.next.new.self loop.conversation c.receive.new.self loop.events.items c.match-receive.events.items c.in-Ok.frame c.receive.result
    loop.invariant.so_far gives c.receive.ensures pushed)
    closed

pub returns-in_err-push-in-Ok-clause-err : goal.returns-in_err-push-in-Ok-clause-err
returns-in_err-push-in-Ok-clause-err c =
    let gives = rw c.in-Ok.is at c.in-Some.ensures in
    let loop = c.loop-answer in
    on_err c.from_residual.result _
    (cut_more c.args.moment c.args.reader.now c.args.conversation.now c.args.events.now.items
    loop.reader c.next.new.self loop.conversation c.receive.new.self loop.events.items loop.events.items c.in-Ok.frame c.receive.result
    c.in-Some-receive.event loop.invariant.so_far gives c.receive.ensures c.in-Some-receive.is)

pub returns-clause-ok : goal.returns-clause-ok
returns-clause-ok c =
    let loop = c.loop-answer in
    reads_none c.args.moment c.args.reader.now c.args.conversation.now c.args.events.now.items loop.reader loop.conversation loop.events.items c.next.new.self
    loop.invariant.so_far c.in_default.ensures

pub returns-in-Err-clause-ok : goal.returns-in-Err-clause-ok
returns-in-Err-clause-ok c =
    let gives = rw c.in-Err.is at c.in-Some.ensures in
    let loop = c.loop-answer in
    reads_fault c.args.moment c.args.reader.now c.args.conversation.now c.args.events.now.items loop.reader loop.conversation loop.events.items c.next.new.self
    c.in-Err.fault c.in-Some-of_stream.fault c.push-in-Err.new.self.items loop.invariant.so_far loop.invariant.live gives
    (sym c.of_stream.ensures ∙ c.in-Some-of_stream.is) c.in_ok-push-in-Err.ensures.items
