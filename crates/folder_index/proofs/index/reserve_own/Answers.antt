use Rattle.std.proofs.Common.{sym, ap, ◌∙◌}
use Rattle.folder_index.proofs.Indexed.{index_promised, moved, promise_again, with_waiting}
use Rattle.folder_index.proofs.Results.{of_ok}
use Rattle.folder_index.proofs.index.reserve_own.Goals as goal

pub returns-then-is_promised-clause-ok : goal.returns-then-is_promised-clause-ok
returns-then-is_promised-clause-ok c = promise_again c.args.names.now c.args.local.now c.requires c.args.name.now (sym c.is_promised.ensures ∙ c.if-is_promised.true)

pub returns-clause-index : goal.returns-clause-index
returns-clause-index c =
    let k = c.settle_own.new.local in
    let names = of_ok c.reserve-2.result (sym c.is_err.ensures.value ∙ c.if-is_err.false) c.reserve-2.ensures.ok in
    moved (sym names) (sym (ap (λ w. with_waiting w k) c.in_ok-reserve.ensures.ok))
    (index_promised c.args.names.now k c.in_ok-settle_own.ensures.index c.args.name.now (sym c.is_promised.ensures ∙ c.if-is_promised.false))
