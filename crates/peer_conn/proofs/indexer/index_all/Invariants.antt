use Rattle.std.specs.List.{AllZip}
use Rattle.peer_conn.specs.Words.{put_of, IsSameSeat}
use Rattle.peer_conn.specs.Turns.{OnlySees}
use Rattle.peer_conn.proofs.Telling.{HasTold}
use Rattle.peer_conn.proofs.indexer.index_all.Given as goal

abbrev pub invariant-loop : goal.invariant-loop
invariant-loop g l = record {
  next : (goal.iterator-loop g).can_next l.iterator';
  finite : (goal.iterator-loop g).is_finite l.iterator';
  same : IsSameSeat l.fn.seat l.seat;
  told : HasTold g.W.FolderCalls.folder g.W.FolderCalls.view g.W.KeptCalls.says l.fn.folders l.initial.senders.items l.senders.items (put_of l.fn.seat) (put_of l.seat);
  stays : AllZip (OnlySees g.W.FolderCalls.folder g.W.FolderCalls.view) l.fn.folders l.folders;
}
