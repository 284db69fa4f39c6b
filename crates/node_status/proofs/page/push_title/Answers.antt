use Rattle.std.proofs.Common.{◌++◌, codes}
use Rattle.node_status.specs.Page.{element}
use Rattle.node_status.proofs.Steps.{both, last}
use Rattle.node_status.proofs.page.push_title.Goals as goal

pub returns : goal.returns
returns c =
    let row = c.args.row.now in
    let title = element (codes "<title>") row.name (codes "</title>\n") in
    let first = element (codes "<h1>") row.name (codes "</h1>\n") in
    let made = element (codes "<p class=\"made\">as of ") row.words (codes "</p>\n") in
    last c.push_words.result _ _ _ (title ++ first) made (both _ _ _ title first c.in_ok-push_name.ensures c.in_ok-push_name-2.ensures) c.push_words.ensures
