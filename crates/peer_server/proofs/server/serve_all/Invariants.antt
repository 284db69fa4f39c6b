use Rattle.peer_conn.specs.Words.{put_of, IsSameSeat}
use Rattle.peer_server.specs.Served.{HasServed}
use Rattle.peer_server.proofs.server.serve_all.Given as goal

abbrev pub invariant-loop : goal.invariant-loop
invariant-loop g l = record {
  next : (goal.iterator-loop g).can_next l.iterator';
  finite : (goal.iterator-loop g).is_finite l.iterator';
  same : IsSameSeat l.fn.seat l.seat;
  served : HasServed g.S.FileStore.keeps g.S.FileStore.tree g.W.FolderCalls.folder g.W.FolderCalls.view g.S.FileStore.fault_count g.S.FileStore.gives g.Q.Source.gives l.fn.requests l.requests l.fn.folders (put_of l.fn.seat) (put_of l.seat) l.folders;
}
