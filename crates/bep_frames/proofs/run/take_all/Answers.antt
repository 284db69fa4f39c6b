use Rattle.std.proofs.Common.{ℕ, List, length, sym, ap, ◌∙◌, arith, rules}
use Rattle.bep_frames.specs.declared.frame.Frame.{Frame}
use Rattle.bep_frames.specs.State.{fed, remaining, with_front}
use Rattle.bep_frames.proofs.Runs.{after_frame, after_fault, fault_stops, shorter, front_push, gives_fault, error_keeps}
use Rattle.bep_frames.proofs.run.take_all.Goals as goal

pub loop-answer-smaller : goal.loop-answer-smaller
loop-answer-smaller c =
    let gives = rw c.in-Ok.is at c.in-Some.ensures in
    shorter c.loop-answer.reader c.next.new.self c.in-Ok.frame gives

pub loop-answer-preserved : goal.loop-answer-preserved
loop-answer-preserved c =
    let gives = rw c.in-Ok.is at c.in-Some.ensures in
    let frames = c.loop-answer.frames.items in
    let later = λ (more : List ℕ). remaining (fed c.next.new.self more) in
    record {
      given = λ more.
          ap (λ (l : List Frame). with_front l (later more)) c.in_ok-push-in-Ok.ensures.items
          ∙ front_push frames c.in-Ok.frame (later more)
          ∙ ap (with_front frames) (sym (after_frame c.loop-answer.reader c.next.new.self c.in-Ok.frame more gives))
          ∙ c.loop-answer.invariant.given more;
      shrinks = omega (arith, c.loop-answer.invariant.shrinks, shorter c.loop-answer.reader c.next.new.self c.in-Ok.frame gives);
    }

pub returns-in-Err : goal.returns-in-Err
returns-in-Err c =
    let gives = rw c.in-Err.is at c.in-Some.ensures in
    let fault = gives_fault c.loop-answer.reader c.next.new.self c.in-Err.fault gives (search rules) in
    record {
      given = λ more. ap (with_front c.loop-answer.frames.items) (after_fault c.loop-answer.reader c.next.new.self c.in-Err.fault more fault) ∙ c.loop-answer.invariant.given more;
      stops = fault_stops c.loop-answer.reader c.next.new.self c.in-Err.fault fault;
      shrinks = omega (arith, c.loop-answer.invariant.shrinks, ap length (error_keeps c.loop-answer.reader c.next.new.self c.in-Err.fault gives).0);
      nothing = λ e. search rules;
    }
