use Rattle.peer_reader.proofs.SoFarLemmas.{IsSoFar}
use Rattle.peer_reader.proofs.reading.read_all.Given as goal

abbrev pub invariant-loop : goal.invariant-loop
invariant-loop g l = IsSoFar g.W.FolderCalls.view g.W.FolderCalls.folder (g.R.ReaderClock.shows l.fn.rt) l.fn.hearing.peer (g.I.Read.remaining l.fn.reader) (g.I.Read.remaining l.reader) l.session l.fn.folders l.folders l.counts l.moment
