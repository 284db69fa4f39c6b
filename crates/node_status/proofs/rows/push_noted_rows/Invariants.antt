use Rattle.std.proofs.Common.{◌≡◌, ◌++◌, take}
use Rattle.node_status.specs.Rows.{noted_rows}
use Rattle.node_status.proofs.rows.push_noted_rows.Given as goal

abbrev pub invariant-loop-noted : goal.invariant-loop-noted
invariant-loop-noted l = l.rows.items ≡ l.initial.rows.items ++ noted_rows l.mark l.words l.made (take l.noted-index l.all)
