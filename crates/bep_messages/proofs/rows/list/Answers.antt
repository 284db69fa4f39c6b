use Rattle.bep_messages.specs.Forms.{form, Fits, IsShort}
use Rattle.bep_messages.proofs.Written.{list_none, list_more, list_lacks, all_more, on_err}
use Rattle.bep_messages.proofs.rows.list.Goals as goal

pub loop-value-init : goal.loop-value-init
loop-value-init g c = record { ok = list_none _ _ _; fits = tt }

pub loop-value-preserved : goal.loop-value-preserved
loop-value-preserved g c =
    let table = g.M.ProtoMessage.table in
    let items = c.as_slice-value-items.result.now in
    let at = c.loop-value.value-index in
    record {
      ok = list_more c.args.number (form table) g.M.ProtoMessage.parts items at c.value-item.result c.loop-value-test.true c.value-item.is c.loop-value.invariant.ok c.in_ok-element.ensures.ok;
      fits = all_more (λ m. Fits table m × IsShort (form table m)) g.M.ProtoMessage.parts items at c.value-item.result c.loop-value-test.true c.value-item.is c.loop-value.invariant.fits c.in_ok-element.ensures.fits;
    }

pub returns-in_err-element-clause-err : goal.returns-in_err-element-clause-err
returns-in_err-element-clause-err g c =
    let table = g.M.ProtoMessage.table in
    let items = c.as_slice-value-items.result.now in
    let less = list_lacks c.args.number (form table) g.M.ProtoMessage.parts items c.loop-value.value-index c.value-item.result c.loop-value-test.true c.value-item.is c.loop-value.invariant.ok c.in_err-element.ensures.err in
    on_err _ (rw c.as_slice-value-items.ensures at less)
