use Rattle.std.proofs.Common.{sym}
use Rattle.peer_conn.specs.Turns.{OnlySees}
use Rattle.peer_link.proofs.Staying.{indexed_itself, through_slice}
use Rattle.peer_link.proofs.jobs.index.Goals as goal

pub returns-then-not-is_on-clause-stays : goal.returns-then-not-is_on-clause-stays
returns-then-not-is_on-clause-stays g c = indexed_itself g.W.FolderCalls.folder g.W.FolderCalls.view c.args.job.folders.items

pub returns-clause-stays : goal.returns-clause-stays
returns-clause-stays g c =
    through_slice (OnlySees g.W.FolderCalls.folder g.W.FolderCalls.view) c.args.job.folders.items c.as_mut_slice.result.now c.run_indexer-seat.new.folders c.args.job.folders.len
    c.as_mut_slice.ensures.value (sym c.as_mut_slice.ensures.len) c.run_indexer-seat.ensures.stays
