use Rattle.std.specs.List.{AllZip}
use Rattle.peer_conn.specs.Words.{put_of, IsSameSeat}
use Rattle.peer_conn.specs.Turns.{OnlySees}
use Rattle.peer_conn.proofs.Telling.{HasTold}
use Rattle.peer_conn.proofs.indexer.index_round.Given as goal

abbrev pub invariant-loop-i : goal.invariant-loop-i
invariant-loop-i g l = record {
  same : IsSameSeat l.fn.seat l.seat;
  told : HasTold g.W.FolderCalls.folder g.W.FolderCalls.view g.W.KeptCalls.says l.fn.folders l.fn.senders l.senders (put_of l.fn.seat) (put_of l.seat);
  stays : AllZip (OnlySees g.W.FolderCalls.folder g.W.FolderCalls.view) l.fn.folders l.folders;
}
