use Rattle.std.proofs.Common.{◌≡◌}
use Rattle.folder_calls.specs.Shared.{Sees}
use Rattle.proof_layers.specs.Heard.{IsOpen}
use Rattle.proof_layers.specs.Told.{SendsSoFar}
use Rattle.proof_layers.proofs.sending.send_pages.Given as goal

-- what was given so far became changes of the other folder
abbrev pub invariant-loop-turn : goal.invariant-loop-turn
invariant-loop-turn g l =
    let one = g.A.FolderCalls.view in
    let other = g.B.FolderCalls.view in
    record {
      from_folder : g.A.FolderCalls.folder l.from ≡ g.A.FolderCalls.folder l.fn.from;
      to_folder : g.B.FolderCalls.folder l.to ≡ g.B.FolderCalls.folder l.fn.to;
      sees : Sees (one l.fn.from) (one l.from);
      between : IsOpen l.to_session;
      so_far : SendsSoFar l.device l.fn.start l.sender (one l.from) (other l.fn.to) (other l.to);
    }
