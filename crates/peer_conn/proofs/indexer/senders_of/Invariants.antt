use Rattle.std.proofs.Common.{take}
use Rattle.std.specs.List.{AllZip}
use Rattle.peer_conn.specs.Indexing.{BeginsAt}
use Rattle.peer_conn.specs.Turns.{OnlySees}
use Rattle.peer_conn.proofs.indexer.senders_of.Given as goal

abbrev pub invariant-loop-folder : goal.invariant-loop-folder
invariant-loop-folder g l = record {
  stays : AllZip (OnlySees g.W.FolderCalls.folder g.W.FolderCalls.view) l.fn.folders l.folder-items;
  begins : AllZip (BeginsAt g.W.FolderCalls.view l.fn.config) (take l.folder-index l.fn.folders) l.senders.items;
}
