use Rattle.std.proofs.Common.{◌≡◌, take}
use Rattle.std.specs.Prelude.{map}
use Rattle.node_resume.specs.Shares.{shares_of}
use Rattle.bepd_run.proofs.starts.all_shares.Given as goal

abbrev pub invariant-loop-peer : goal.invariant-loop-peer
invariant-loop-peer l = map (λ s. s.items) l.shares.items ≡ map (shares_of l.config l.state) (take l.peer-index l.config.peers)
