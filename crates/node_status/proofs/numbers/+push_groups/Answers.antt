use Rattle.std.proofs.Common.{◌≡◌, ◌++◌, ◌-◌, ◌/◌, ◌%◌, codes, rules}
use Rattle.std.specs.Fmt.{decimal}
use Rattle.node_status.specs.Numbers.{grouped, three_digits}
use Rattle.node_status.proofs.NumberLemmas.{grouped_none, grouped_small, grouped_more}
use Rattle.node_status.proofs.Steps.{both, last}
use Rattle.node_status.proofs.numbers.+push_groups.Goals as goal
use Rattle.node_status.proofs.numbers.+push_groups.Goals.{then-commas-eq0-via-then-commas-eq0, then-commas-eq0-via-else-commas-eq0+then-number-lt1000}

pub returns-then-commas-eq0 : goal.returns-then-commas-eq0
returns-then-commas-eq0 t c =
    let plain : grouped c.args.commas c.args.number ≡ decimal c.args.number = elim c.then-commas-eq0.branch [
      | then-commas-eq0-via-then-commas-eq0 w ↦ grouped_none c.args.commas c.args.number w.if-commas-eq0.true
      | then-commas-eq0-via-else-commas-eq0+then-number-lt1000 w ↦ grouped_small c.args.commas c.args.number w.if-number-lt1000.true
    ] in
    rw plain (search rules)

pub returns : goal.returns
returns t c =
    let more = grouped_more c.args.commas c.args.number c.if-commas-eq0.false c.if-number-lt1000.false in
    let front = both _ _ _ (grouped (c.args.commas - 1) (c.args.number / 1000)) (codes ",") c.in_ok-push_groups.ensures c.in_ok-push_str.ensures.bytes in
    rw more (last c.push_three_digits.result _ _ _ (grouped (c.args.commas - 1) (c.args.number / 1000) ++ codes ",") (three_digits (c.args.number % 1000)) front c.push_three_digits.ensures)
