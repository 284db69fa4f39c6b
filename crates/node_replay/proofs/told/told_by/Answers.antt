use Rattle.std.proofs.Common.{◌∙◌}
use Rattle.std.proofs.lemmas.Result.{err_from_is_err_and}
use Rattle.node_replay.proofs.Clearing.{of-plans, of-records, parts-plans, parts-pullable, parts-records, parts-safe}
use Rattle.node_replay.proofs.told.told_by.Goals as goal

pub loop-part-preserved : goal.loop-part-preserved
loop-part-preserved c =
    let ps = c.args.parts.now in
    let i = c.loop-part.part-index in
    let x = c.part-item.result in
    let lt = c.loop-part-test.true in
    let at = c.part-item.is in
    record {
      records = c.in_ok-add_records.ensures.ok ∙ parts-records (λ p. p.now) ps i x lt at c.as_slice-infos.result.now c.as_slice-infos.ensures c.loop-part.told.records.items c.loop-part.invariant.records;
      plans = c.in_ok-add_plans.ensures.ok ∙ parts-plans (λ p. p.now) ps i x lt at c.as_slice-plans.result.now c.as_slice-plans.ensures c.loop-part.told.plans.items c.loop-part.invariant.plans;
      safe = parts-safe (λ p. p.now) ps i x lt at c.as_slice-infos.result.now c.as_slice-plans.result.now c.as_slice-infos.ensures c.as_slice-plans.ensures c.loop-part.invariant.safe
          c.in_ok-add_records.ensures.safe c.in_ok-add_plans.ensures.safe;
      pullable = parts-pullable (λ p. p.now) ps i x lt at c.as_slice-plans.result.now c.as_slice-plans.ensures c.loop-part.invariant.pullable c.in_ok-add_plans.ensures.pullable;
    }

pub returns-in_err-add_records-clause-err : goal.returns-in_err-add_records-clause-err
returns-in_err-add_records-clause-err c =
    let p = err_from_is_err_and c.from_residual.result c.from_residual.ensures.1 in
    rw (p.1, p.2) (of-records (λ p. p.now) c.args.parts.now c.loop-part.part-index c.part-item.result c.loop-part-test.true c.part-item.is c.as_slice-infos.result.now c.as_slice-infos.ensures _ c.in_err-add_records.ensures.err)

pub returns-in_err-add_plans-clause-err : goal.returns-in_err-add_plans-clause-err
returns-in_err-add_plans-clause-err c =
    let p = err_from_is_err_and c.from_residual-in_err-add_plans.result c.from_residual-in_err-add_plans.ensures.1 in
    rw (p.1, p.2) (of-plans (λ p. p.now) c.args.parts.now c.loop-part.part-index c.part-item.result c.loop-part-test.true c.part-item.is c.as_slice-plans.result.now c.as_slice-plans.ensures _ c.in_err-add_plans.ensures.err)
