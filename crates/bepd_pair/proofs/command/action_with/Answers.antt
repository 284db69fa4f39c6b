use Rattle.bepd_pair.proofs.Grammar.{no_argument, no_side}
use Rattle.bepd_pair.proofs.command.action_with.Goals as goal

pub returns-in_err-side : goal.returns-in_err-side
returns-in_err-side c =
    rw c.from_residual-in_err-side.ensures (no_argument c.args.word.now c.args.rest.now c.in_default.ensures c.in_err-side.ensures)

pub returns-in_err-side-2 : goal.returns-in_err-side-2
returns-in_err-side-2 c =
    rw c.from_residual-in_err-side-2.ensures
    (no_side c.args.word.now c.args.rest.now c.in_ok-side.side.now c.in_ok-side.argument.now c.in_default.ensures c.in_ok-side.ensures.0 c.in_ok-side.ensures.1 c.in_err-side-2.ensures)
