use Rattle.std.proofs.Common.{◌≡◌, ◌++◌, take}
use Rattle.std.specs.List.{flat_map}
use Rattle.node_status.specs.Rows.{peer_rows}
use Rattle.node_status.proofs.rows.push_peers.Given as goal

abbrev pub invariant-loop-peer : goal.invariant-loop-peer
invariant-loop-peer l = l.rows.items ≡ l.initial.rows.items ++ flat_map (peer_rows l.made) (take l.peer-index l.peers)
