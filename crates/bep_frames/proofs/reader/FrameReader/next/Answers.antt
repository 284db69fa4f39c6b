use Rattle.std.proofs.Common.{◌≡◌, ◌-◌, drop, None, refl, sym, ap, subst, ◌∙◌, arith, rules}
use Rattle.std.specs.Prelude.{◌≢◌}
use Rattle.std.proofs.lemmas.List.{take_rest}
use Rattle.bep_frames.specs.declared.fault.FrameFault.TheVariants.{OutOfMemory}
use Rattle.bep_frames.specs.Grammar.{IsPartial}
use Rattle.bep_frames.specs.Reading.{Whole, Broken, frame_at}
use Rattle.bep_frames.proofs.Places.{begins_whole, taken_out, left_within}
use Rattle.bep_frames.proofs.Readings.{broken_shows, lacks_partial}
use Rattle.bep_frames.proofs.Runs.{new_fault}
use Rattle.bep_frames.proofs.reader.FrameReader.next.Goals as goal

pub overflow_sub-after : goal.overflow_sub-after
overflow_sub-after c =
    let found = rw c.in-Ok-Whole.field-0-is at c.in-Ok-Whole.ensures.found in
    let start = c.self.inside.start in
    let at = take_rest c.deref.result.now start ∙ ap (drop start) c.deref.ensures.value in
    let within = left_within c.self.inside.hello_is_due c.self.inside.bytes.items _ start c.in-Ok-Whole.left c.in-Ok-Whole.frame found.0 at found.1 found.2 in
    omega (arith, within, c.len.ensures)

pub returns-in-Ok-Whole : goal.returns-in-Ok-Whole
returns-in-Ok-Whole c =
    let found = rw c.in-Ok-Whole.field-0-is at c.in-Ok-Whole.ensures.found in
    let start = c.self.inside.start in
    let items = c.self.inside.bytes.items in
    let due = c.self.inside.hello_is_due in
    let at = take_rest c.deref.result.now start ∙ ap (drop start) c.deref.ensures.value in
    let after = taken_out due items _ start c.in-Ok-Whole.left (c.len.result - c.in-Ok-Whole.left) c.in-Ok-Whole.frame found.0 at found.1 found.2 (omega (arith, c.len.ensures)) in
    let whole : frame_at due (drop start items) ≡ Whole c.in-Ok-Whole.frame found.0 = ap (frame_at due) (sym at) ∙ found.2 in
    let none : c.self.inside.fault ≡ None = search rules in
    rw (← c.self.view_is) (none, begins_whole due _ _ _ (whole ∙ ap (Whole c.in-Ok-Whole.frame) (sym (c.cut_front-self-inside.ensures.kept ∙ after))), refl, none)

pub returns-then-self-gt0 : goal.returns-then-self-gt0
returns-then-self-gt0 c =
    let r = c.self.inside in
    rw (← c.self.view_is) (c.in_default.is, lacks_partial r.hello_is_due (drop r.start r.bytes.items) r.missing c.if-self-gt0.true c.self.invariant.lacks, refl)

pub returns-in-Ok-Missing : goal.returns-in-Ok-Missing
returns-in-Ok-Missing c =
    let r = c.self.inside in
    let found = rw c.in-Ok-Missing.field-0-is at c.in-Ok-Missing.ensures.found in
    let at = take_rest c.deref.result.now r.start ∙ ap (drop r.start) c.deref.ensures.value in
    rw (← c.self.view_is) (c.in_default.is, subst (IsPartial r.hello_is_due) at (lacks_partial r.hello_is_due _ c.in-Ok-Missing.missing found.0 found.1), refl)

pub returns-in-Err : goal.returns-in-Err
returns-in-Err c =
    let r = c.self.inside in
    let fault = c.in-Err.fault in
    let at = take_rest c.deref.result.now r.start ∙ ap (drop r.start) c.deref.ensures.value in
    let known : fault ≢ OutOfMemory = search rules in
    let broken : frame_at r.hello_is_due (drop r.start r.bytes.items) ≡ Broken fault = ap (frame_at r.hello_is_due) (sym at) ∙ c.in-Err.ensures.found known in
    new_fault _ c.args.self.now fault c.self.view_is c.in_default.is (broken_shows r.hello_is_due _ fault broken) known
