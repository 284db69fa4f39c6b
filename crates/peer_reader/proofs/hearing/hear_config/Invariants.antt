use Rattle.peer_reader.proofs.ConfigLemmas.{Front}
use Rattle.peer_reader.proofs.hearing.hear_config.Given as goal

-- the first folders heard it
abbrev pub invariant-loop-i : goal.invariant-loop-i
invariant-loop-i g l = Front g.W.FolderCalls.view g.W.FolderCalls.folder l.fn.peer l.fn.config l.i l.initial.folders l.initial.counts l.folders l.counts
