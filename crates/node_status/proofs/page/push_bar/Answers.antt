use Rattle.std.proofs.Common.{◌++◌, codes, decimal}
use Rattle.node_status.specs.Numbers.{percent}
use Rattle.node_status.proofs.Steps.{both, last_text}
use Rattle.node_status.proofs.page.push_bar.Goals as goal

pub returns-in_ok-push_decimal-in-Some : goal.returns-in_ok-push_decimal-in-Some
returns-in_ok-push_decimal-in-Some c =
    let tag = codes " <progress max=\"100\" value=\"" in
    let value = decimal (percent c.in-Some.progress) in
    let written = rw c.percent.ensures.value at c.in_ok-push_decimal-in-Some.ensures in
    let front = both _ _ _ tag value c.in_ok-push_str-in-Some.ensures.bytes written in
    rw c.in-Some.is (last_text c.push_str-in-Some.result _ _ _ (tag ++ value) (codes "\"></progress>") front c.push_str-in-Some.ensures.bytes)
