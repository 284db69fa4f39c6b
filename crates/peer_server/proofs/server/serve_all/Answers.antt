use Rattle.std.proofs.Common.{◌∙◌}
use Rattle.peer_conn.specs.Words.{put_of}
use Rattle.peer_server.proofs.Serving.{one-more}
use Rattle.peer_server.proofs.server.serve_all.Goals as goal

pub loop-preserved : goal.loop-preserved
loop-preserved g c =
    let same = c.loop.invariant.same in
    let now = c.serve_next.ensures.same in
    record {
      next = tt;
      finite = tt;
      same = (now.0 ∙ same.0, now.1 ∙ same.1);
      served = one-more g.S.FileStore.keeps g.S.FileStore.tree g.W.FolderCalls.folder g.W.FolderCalls.view g.S.FileStore.fault_count g.S.FileStore.gives
          g.Q.Source.gives c.args.requests.now c.loop.requests c.serve_next.new.requests c.args.folders.now (put_of c.args.seat.now) (put_of c.loop.seat) (put_of c.serve_next.new.seat) c.loop.folders c.serve_next.new.folders
          c.loop.invariant.served c.in_default.ensures.serves;
    }
