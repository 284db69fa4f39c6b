use Rattle.node_status.proofs.Steps.{last}
use Rattle.node_status.proofs.rows.push_state_rows.Goals as goal

pub returns-in_ok-push_joined-in-Some : goal.returns-in_ok-push_joined-in-Some
returns-in_ok-push_joined-in-Some c =
    let why = rw c.as_str.ensures.value at c.in_ok-push_joined-in-Some.ensures in
    rw c.in-Some.is (last c.push_joined-in-Some.result _ _ _ _ _ why c.push_joined-in-Some.ensures)
