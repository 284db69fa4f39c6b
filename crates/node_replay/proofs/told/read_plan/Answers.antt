use Rattle.std.proofs.lemmas.Result.{err_from_is_err_and}
use Rattle.node_replay.proofs.Clearing.{of-target}
use Rattle.node_replay.proofs.told.read_plan.Goals as goal

pub returns-in_err-target-clause-err : goal.returns-in_err-target-clause-err
returns-in_err-target-clause-err c =
    let p = err_from_is_err_and c.from_residual.result c.from_residual.ensures.1 in
    rw (p.1, p.2) (of-target _ c.args.plan.now c.in_err-target.ensures.err)

pub returns-in_err-base-clause-err : goal.returns-in_err-base-clause-err
returns-in_err-base-clause-err c =
    let p = err_from_is_err_and c.from_residual-in_err-base.result c.from_residual-in_err-base.ensures.1 in
    rw (p.1, p.2) (λ x. x)
