use Rattle.std.proofs.Common.{◌+◌, arith, sym, ◌∙◌}
use Rattle.folder_core.proofs.PlainNumber.{least_is, least_past}
use Rattle.folder_core.proofs.plain.pulls.least_free.Goals as goal

pub returns-then-not-has_number : goal.returns-then-not-has_number
returns-then-not-has_number c = least_is c.args.pulls.now (c.loop-lesser.lesser + 1) (omega arith) (sym c.has_number.ensures ∙ c.if-not-has_number.true) c.loop-lesser.invariant

pub returns : goal.returns
returns c = least_past c.args.pulls.now (λ m h l. c.loop-lesser.invariant m h (omega arith))
