use Rattle.std.proofs.Common.{◌≡◌, take}
use Rattle.std.specs.Prelude.{map}
use Rattle.node_resume.specs.Shares.{firsts, share_of}
use Rattle.node_resume.proofs.shares.shares_of.Given as goal

abbrev pub invariant-loop-folder : goal.invariant-loop-folder
invariant-loop-folder l = l.shares.items ≡ map (share_of l.config l.state l.peer.device) (firsts (take l.folder-index l.peer.folders))
