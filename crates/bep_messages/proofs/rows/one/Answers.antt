use Rattle.std.proofs.Common.{arith}
use Rattle.bep_messages.proofs.Written.{one_put, one_empty, one_unwritten, one_without_head, on_err}
use Rattle.bep_messages.proofs.rows.one.Goals as goal

pub returns-in_ok-put_head-clause-ok : goal.returns-in_ok-put_head-clause-ok
returns-in_ok-put_head-clause-ok g c =
    let put = c.in_ok-put_head.ensures in
    one_put c.args.number c.len-from.ensures c.in_ok-write.ensures.ok (omega (arith, c.if-len-from.true, c.len.ensures)) put.ok put.kept put.longer put.capacity

pub returns-else-len-from-clause-ok : goal.returns-else-len-from-clause-ok
returns-else-len-from-clause-ok g c = one_empty c.args.number c.len-from.ensures c.in_ok-write.ensures.ok (omega (arith, c.if-len-from.false, c.len.ensures))

pub returns-in_err-write-clause-err : goal.returns-in_err-write-clause-err
returns-in_err-write-clause-err g c = on_err _ (one_unwritten c.args.number c.in_err-write.ensures.err)

pub returns-in_err-put_head-clause-err : goal.returns-in_err-put_head-clause-err
returns-in_err-put_head-clause-err g c =
    let put = c.in_err-put_head.ensures in
    on_err _ (one_without_head c.args.number c.len-from.ensures c.in_ok-write.ensures.ok (omega (arith, c.if-len-from.true, c.len.ensures)) put.full put.kept put.capacity)
