use Rattle.std.proofs.Common.{◌++◌, codes}
use Rattle.node_status.specs.declared.page.TheConstants.{HEAD, STYLE}
use Rattle.node_status.specs.Page.{head_html}
use Rattle.node_status.proofs.Steps.{both, last_text}
use Rattle.node_status.proofs.page.push_head.Goals as goal

pub returns : goal.returns
unfolding head_html
returns c =
    let front = both _ _ _ HEAD.now STYLE.now c.in_ok-push_str.ensures.bytes c.in_ok-push_str-2.ensures.bytes in
    last_text c.push_str-3.result _ _ _ (HEAD.now ++ STYLE.now) (codes "</style>\n") front c.push_str-3.ensures.bytes
