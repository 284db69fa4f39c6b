use Rattle.std.proofs.lemmas.Result.{err_from_is_err_and}
use Rattle.bep_messages.proofs.Loop.{at_broken, at_end, goes_on, stops, values_go_on, values_end, takes_here, takes_later}
use Rattle.bep_messages.proofs.message.ProtoMessage.merge.Goals as goal

pub returns-in_err-field-clause-fault : goal.returns-in_err-field-clause-fault
returns-in_err-field-clause-fault g c =
    let p = err_from_is_err_and c.from_residual.result c.from_residual.ensures.1 in
    rw (p.1, p.2) (at_broken _ _ _ _ c.in_err-field.ensures.reading c.loop-field.invariant.fault)

pub returns-in_err-put-clause-fault : goal.returns-in_err-put-clause-fault
returns-in_err-put-clause-fault g c =
    let p = err_from_is_err_and c.from_residual-in_err-put.result c.from_residual-in_err-put.ensures.1 in
    let h = rw c.in-Some.is at c.in_ok-field.ensures.reading in
    rw (p.1, p.2) (stops _ _ _ _ _ _ h c.in_err-put.ensures.fault c.loop-field.invariant.fault)

pub returns-in_err-put-clause-memory : goal.returns-in_err-put-clause-memory
returns-in_err-put-clause-memory g c =
    let p = err_from_is_err_and c.from_residual-in_err-put.result c.from_residual-in_err-put.ensures.1 in
    let h = rw c.in-Some.is at c.in_ok-field.ensures.reading in
    rw (p.1, p.2) (λ is. c.loop-field.invariant.memory (takes_here _ _ _ _ h (c.in_err-put.ensures.memory is)))

pub loop-field-preserved : goal.loop-field-preserved
loop-field-preserved g c =
    let h = rw c.in-Some.is at c.in_ok-field.ensures.reading in
    record {
      memory = λ later. c.loop-field.invariant.memory (takes_later _ _ _ _ h c.in_ok-put.ensures.ok.0 later);
      fault = goes_on _ _ _ _ _ h c.in_ok-put.ensures.ok.0 c.loop-field.invariant.fault;
      value = values_go_on g.Self.ProtoMessage.table g.met.Self.ProtoMessage.table_rises _ _ _ _ _ _ h c.in_ok-put.ensures.ok.0 c.in_ok-put.ensures.ok.1 c.loop-field.invariant.value;
    }

pub returns-clause-ok : goal.returns-clause-ok
returns-clause-ok g c =
    let h = rw c.in_default.is at c.in_ok-field.ensures.reading in
    (at_end _ _ _ h c.loop-field.invariant.fault, values_end g.Self.ProtoMessage.table _ _ _ h c.loop-field.invariant.value)
