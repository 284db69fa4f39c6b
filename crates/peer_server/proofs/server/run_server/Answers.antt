use Rattle.peer_conn.specs.Words.{put_of}
use Rattle.peer_server.proofs.Serving.{stays-served}
use Rattle.peer_server.proofs.server.run_server.Goals as goal

pub returns-clause-stays : goal.returns-clause-stays
returns-clause-stays g c =
    stays-served g.S.FileStore.keeps g.S.FileStore.tree g.W.FolderCalls.folder g.W.FolderCalls.view g.S.FileStore.fault_count g.S.FileStore.gives
    g.Q.Source.gives c.args.requests c.serve_all-end.new.requests c.args.folders.now (put_of c.args.seat) (put_of c.serve_all-end.new.seat) c.serve_all-end.result c.serve_all-end.new.folders c.serve_all-end.ensures.serves
