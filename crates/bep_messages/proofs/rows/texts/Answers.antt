use Rattle.bep_messages.specs.Forms.{IsText}
use Rattle.bep_messages.proofs.Written.{list_none, list_more, list_lacks, all_more, map_id, on_err}
use Rattle.bep_messages.proofs.rows.texts.Goals as goal

pub loop-value-init : goal.loop-value-init
loop-value-init c = record { ok = list_none _ _ _; fits = tt }

pub loop-value-preserved : goal.loop-value-preserved
loop-value-preserved c =
    let items = c.as_slice-value-items.result.now in
    let at = c.loop-value.value-index in
    record {
      ok = list_more c.args.number (λ t. t) (λ t. t) items at c.value-item.result c.loop-value-test.true c.value-item.is c.loop-value.invariant.ok c.in_ok-text.ensures.ok;
      fits = all_more IsText (λ t. t) items at c.value-item.result c.loop-value-test.true c.value-item.is c.loop-value.invariant.fits c.in_ok-text.ensures.fits;
    }

pub returns-in_err-text-clause-err : goal.returns-in_err-text-clause-err
returns-in_err-text-clause-err c =
    let items = c.as_slice-value-items.result.now in
    let less = list_lacks c.args.number (λ t. t) (λ t. t) items c.loop-value.value-index c.value-item.result c.loop-value-test.true c.value-item.is c.loop-value.invariant.ok c.in_err-text.ensures.err in
    on_err _ (rw (map_id items, c.as_slice-value-items.ensures) at less)
