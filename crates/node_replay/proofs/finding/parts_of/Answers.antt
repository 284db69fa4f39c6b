use Rattle.std.proofs.Common.{◌≡◌, ◌++◌, ◌∙◌, take, sym, ap, arith}
use Rattle.std.specs.Prelude.{bytes_eq, filter}
use Rattle.std.proofs.lemmas.Grind.{common_steps}
use Rattle.node_journal.specs.declared.part.Part.{Part}
use Rattle.node_replay.specs.Told.{parts_of}
use Rattle.node_replay.proofs.Adding.{parts-more}
use Rattle.node_replay.proofs.finding.parts_of.Goals as goal

pub loop-frame-preserved : goal.loop-frame-preserved
loop-frame-preserved c =
    c.in_ok-add_parts.ensures
    ∙ (λ j. c.loop-frame.invariant j ++ filter (λ (p : Part). bytes_eq p.id c.args.id.now) (c.as_slice-more.ensures j))
    ∙ sym (parts-more c.args.frames.now c.loop-frame.frame-index c.frame-item.result c.loop-frame-test.true c.frame-item.is c.args.id.now)

pub returns : goal.returns
returns c =
    let all : take c.loop-frame.frame-index c.args.frames.now ≡ c.args.frames.now = grind (arith, common_steps) in
    c.loop-frame.invariant ∙ ap (parts_of c.args.id.now) all
