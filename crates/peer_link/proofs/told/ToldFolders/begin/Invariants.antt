use Rattle.std.proofs.Common.{ℕ}
use Rattle.peer_link.proofs.Writing.{IsSoFar}
use Rattle.peer_link.specs.Told.{begun}
use Rattle.peer_link.proofs.told.ToldFolders.begin.Given as goal

abbrev pub invariant-loop-folder : goal.invariant-loop-folder
invariant-loop-folder l = IsSoFar (λ (k : ℕ). begun l.peer l.config) l.folder-index l.initial.folder-items l.folder-items
