use Rattle.std.proofs.Common.{◌≡◌, length, take}
use Rattle.std.specs.Prelude.{map}
use Rattle.bepd_run.specs.Starts.{ArePeers}
use Rattle.bepd_run.proofs.starts.peers_of.Given as goal

abbrev pub invariant-loop-place : goal.invariant-loop-place
invariant-loop-place l = record {
  count : length l.peers.items ≡ l.place;
  each : ArePeers (map (λ s. s.items) (take l.place l.shares)) l.peers.items l.config.peers;
}
