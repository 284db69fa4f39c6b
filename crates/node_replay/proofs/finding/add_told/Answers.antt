use Rattle.std.proofs.Common.{◌≡◌, ◌++◌, ◌∙◌, map, take, sym, ap, arith}
use Rattle.std.proofs.lemmas.Grind.{common_steps}
use Rattle.std.proofs.lemmas.List.{append-nil}
use Rattle.std.proofs.lemmas.Result.{err_from_is_err_and}
use Rattle.node_journal.specs.declared.part.Part.{Part}
use Rattle.node_replay.specs.Recovered.{firsts}
use Rattle.node_replay.proofs.Adding.{ids-more}
use Rattle.node_replay.proofs.All.{some-at}
use Rattle.node_replay.proofs.finding.add_told.Goals as goal

pub loop-part-init : goal.loop-part-init
loop-part-init c = λ xs is. is ∙ ap firsts (sym (append-nil xs))

pub loop-part-preserved : goal.loop-part-preserved
loop-part-preserved c = λ xs is.
    c.in_ok-add.ensures (xs ++ map (λ (p : Part). p.id) (take c.loop-part.part-index c.args.parts.now)) (c.loop-part.invariant xs is)
    ∙ ids-more c.args.parts.now c.loop-part.part-index c.part-item.result c.loop-part-test.true c.part-item.is (λ p. p.id) xs

pub returns-clause-ids : goal.returns-clause-ids
returns-clause-ids c = λ xs is.
    let all : take c.loop-part.part-index c.args.parts.now ≡ c.args.parts.now = grind (arith, common_steps) in
    c.loop-part.invariant xs is ∙ ap (λ fs. firsts (xs ++ map (λ (p : Part). p.id) fs)) all

pub returns-in_err-add-clause-some : goal.returns-in_err-add-clause-some
returns-in_err-add-clause-some c =
    let p = err_from_is_err_and c.from_residual.result c.from_residual.ensures.1 in
    rw p.1 (some-at c.args.parts.now c.loop-part.part-index c.loop-part-test.true)
