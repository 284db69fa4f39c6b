use Rattle.node_status.proofs.PageLemmas.{pushed}
use Rattle.node_status.proofs.page.push_piece.Goals as goal

pub returns : goal.returns
returns c = pushed c.push_escaped.result _ _ _ c.push_escaped.ensures.ok
