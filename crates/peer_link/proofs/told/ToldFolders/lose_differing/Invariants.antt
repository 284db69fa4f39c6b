use Rattle.std.proofs.Common.{ℕ}
use Rattle.peer_link.proofs.Writing.{IsSoFar}
use Rattle.peer_link.specs.Told.{lost_by}
use Rattle.peer_link.proofs.told.ToldFolders.lose_differing.Given as goal

abbrev pub invariant-loop-folder : goal.invariant-loop-folder
invariant-loop-folder l = IsSoFar (λ (k : ℕ). lost_by l.peer l.config) l.folder-index l.initial.folder-items l.folder-items
