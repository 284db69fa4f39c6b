use Rattle.std.proofs.Common.{ℕ}
use Rattle.peer_link.proofs.Writing.{IsSoFar, without_at}
use Rattle.peer_link.proofs.told.ToldFolders.forget_lost.Given as goal

abbrev pub invariant-loop-at : goal.invariant-loop-at
invariant-loop-at g l = IsSoFar (without_at l.self.folders.items) l.at l.initial.folders l.folders
