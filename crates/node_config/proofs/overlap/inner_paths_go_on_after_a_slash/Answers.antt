use Rattle.node_config.proofs.OverlapLemmas.{within_is}
use Rattle.node_config.proofs.overlap.inner_paths_go_on_after_a_slash.Goals as goal

pub returns : goal.returns
returns c = within_is
