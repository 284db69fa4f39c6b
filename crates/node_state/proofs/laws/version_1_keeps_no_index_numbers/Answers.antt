use Rattle.node_state.proofs.Versions.{as-first, none-kept}
use Rattle.node_state.proofs.laws.version_1_keeps_no_index_numbers.Goals as goal

pub returns-clause-none : goal.returns-clause-none
returns-clause-none c = none-kept

pub returns-clause-same : goal.returns-clause-same
returns-clause-same c = as-first
