use Rattle.std.proofs.Common.{◌≡◌, false, inl, inr, arith, rules}
use Rattle.node_status.specs.Screen.{is_escaped}
use Rattle.node_status.proofs.ScreenLemmas.{not_escaped}
use Rattle.node_status.proofs.screen.push_char.Goals as goal
use Rattle.node_status.proofs.screen.push_char.Goals.{in_default-via-then-char-lt127, in_default-via-else-char-lt127+else-char-lt160}

pub returns-in_default : goal.returns-in_default
returns-in_default c =
    let plain : is_escaped c.args.char ≡ false = elim c.in_default.branch [
      | in_default-via-then-char-lt127 w ↦ not_escaped c.args.char (omega arith) (omega arith) (inl (omega arith))
      | in_default-via-else-char-lt127+else-char-lt160 w ↦ not_escaped c.args.char (omega arith) (omega arith) (inr (omega arith))
    ] in
    rw plain (search rules)
