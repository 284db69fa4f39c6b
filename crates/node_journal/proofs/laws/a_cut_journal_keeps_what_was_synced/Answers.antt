use Rattle.node_journal.proofs.Cuts.{beginning}
use Rattle.node_journal.proofs.laws.a_cut_journal_keeps_what_was_synced.Goals as goal

pub returns : goal.returns
returns c = beginning
