use Rattle.std.proofs.Common.{◌≡◌}
use Rattle.folder_calls.specs.Shared.{Sees}
use Rattle.node_saver.proofs.SoFar.{SavesSoFar}
use Rattle.node_saver.proofs.saving.save_records.Given as goal

abbrev pub invariant-loop-turn : goal.invariant-loop-turn
invariant-loop-turn g l = record {
  folder : g.W.FolderCalls.folder l.calls ≡ g.W.FolderCalls.folder l.fn.calls;
  sees : Sees (g.W.FolderCalls.view l.fn.calls) (g.W.FolderCalls.view l.calls);
  so_far : SavesSoFar g.J.FrameJournal.appends l.folder l.fn.sender l.sender (g.W.FolderCalls.view l.fn.calls) (g.W.FolderCalls.view l.calls) l.fn.journal l.journal;
}
