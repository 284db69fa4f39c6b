use Rattle.std.proofs.Common.{◌∙◌, ℕ, Some, ap}
use Rattle.node_need.specs.declared.retries.Retry.{Retry}
use Rattle.node_need.specs.Retries.{Name, begun, put_at, retry_at}
use Rattle.node_need.proofs.RetryLemmas.{on_err, put_is, same_is}
use Rattle.node_need.proofs.retries.Retries.begin.Goals as goal

pub returns-in_err-insert-clause-err : goal.returns-in_err-insert-clause-err
returns-in_err-insert-clause-err c = on_err c.from_residual.result (same_is c.args.self.now.retries c.insert.new.self c.in_err-insert.ensures.err)

pub returns-clause-begun : goal.returns-clause-begun
returns-clause-begun c =
    let w = c.args.wanted in
    let f = retry_at c.args.self.now in
    put_is c.args.self.now.retries c.insert.new.self c.begun-name.result.0 (Some c.begun-name.result.1) c.in_ok-insert.ensures.updates
    ∙ ap (λ (p : Name × Retry). put_at p.0 (Some p.1) f) c.begun-name.ensures
    ∙ ap (λ (pause : ℕ). put_at w.name (Some (begun w c.args.up c.args.lacks_room pause)) f) c.pause_of-pause.ensures
