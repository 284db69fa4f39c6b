use Rattle.std.proofs.Common.{◌-◌, drop, length}
use Rattle.bep_messages.specs.Values.{value}
use Rattle.node_state.specs.Peers.{pair}
use Rattle.node_state.specs.Meaning.{peer_of}
use Rattle.node_state.specs.Reading.{IsGoodPeer}
use Rattle.node_state.specs.Tables.{peer_table}
use Rattle.node_state.proofs.Goes.{Goes}
use Rattle.node_state.proofs.reading.read_peers.Given as goal

abbrev pub invariant-loop-peers : goal.invariant-loop-peers
invariant-loop-peers l = Goes IsGoodPeer (λ b. peer_of (value peer_table b)) pair 5 l.source l.peers.items (drop l.at l.source)

abbrev pub decreases-loop-peers : goal.decreases-loop-peers
decreases-loop-peers l = length l.source - l.at
