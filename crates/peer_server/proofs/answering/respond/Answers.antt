use Rattle.peer_server.proofs.Serving.{answers-at, runs-out-at}
use Rattle.peer_server.proofs.answering.respond.Goals as goal

pub returns-in-Some-clause-answers : goal.returns-in-Some-clause-answers
returns-in-Some-clause-answers g c =
    answers-at g.S.FileStore.keeps g.S.FileStore.tree g.W.FolderCalls.folder g.W.FolderCalls.view g.S.FileStore.fault_count g.S.FileStore.gives
    c.args.folders.now c.args.asked.now c.in-Some.place c.index-folders-place.result c.serve_one.new.folder c.if-place-folders.true c.in-Some.is
    c.serve_one.result c.serve_one.ensures.responds

pub returns-in-Some-clause-out_of_memory : goal.returns-in-Some-clause-out_of_memory
returns-in-Some-clause-out_of_memory g c =
    runs-out-at g.S.FileStore.keeps g.S.FileStore.tree g.W.FolderCalls.folder g.W.FolderCalls.view g.S.FileStore.fault_count g.S.FileStore.gives
    c.args.folders.now c.args.asked.now c.in-Some.place c.index-folders-place.result c.serve_one.new.folder c.if-place-folders.true c.in-Some.is
    c.serve_one.result c.serve_one.ensures.out_of_memory
