use Rattle.std.proofs.Common.{◌≡◌, ◌∷◌, sym, ◌∙◌}
use Rattle.std.proofs.lemmas.List.{take_all}
use Rattle.record_lines.specs.Lines.{counter_text}
use Rattle.record_lines.proofs.LineSteps.{joined}
use Rattle.record_lines.proofs.push_version.Goals as goal

pub returns : goal.returns
returns c =
    let first = c.in-Some.first.now in
    let others = c.in-Some.others.now in
    let counters : c.args.version.now ≡ first ∷ others = sym c.counters.ensures.value ∙ c.in-Some.ensures.cases.0 in
    let text = joined 44 counter_text c.args.line.now.items first others in
    let all = take_all c.loop-counter.counter-index others c.loop-counter-test.false in
    rw counters (cc (c.in_ok-push_counter.ensures))
