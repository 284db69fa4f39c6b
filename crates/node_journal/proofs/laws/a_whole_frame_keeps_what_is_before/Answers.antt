use Rattle.node_journal.proofs.Counts.{ends-whole, keeps}
use Rattle.node_journal.proofs.laws.a_whole_frame_keeps_what_is_before.Goals as goal

pub returns-clause-all : goal.returns-clause-all
returns-clause-all c = ends-whole

pub returns-clause-more : goal.returns-clause-more
returns-clause-more c = keeps
