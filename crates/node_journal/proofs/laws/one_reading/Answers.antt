use Rattle.node_journal.proofs.Journals.{one-journal}
use Rattle.node_journal.proofs.Once.{one}
use Rattle.node_journal.proofs.laws.one_reading.Goals as goal

pub returns-clause-journal : goal.returns-clause-journal
returns-clause-journal c = one-journal

pub returns-clause-frames : goal.returns-clause-frames
returns-clause-frames c = one
