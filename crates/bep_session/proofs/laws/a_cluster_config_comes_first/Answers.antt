use Rattle.bep_session.proofs.First.{is_first, only_first}
use Rattle.bep_session.proofs.laws.a_cluster_config_comes_first.Goals as goal

pub returns-clause-is : goal.returns-clause-is
returns-clause-is c = is_first

pub returns-clause-only : goal.returns-clause-only
returns-clause-only c = only_first
