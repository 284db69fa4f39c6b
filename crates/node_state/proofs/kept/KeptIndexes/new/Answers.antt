use Rattle.std.proofs.Common.{ap, map, ◌∙◌, List}
use Rattle.node_state.specs.declared.kept.PeerIndex.{PeerIndex}
use Rattle.node_state.specs.Peers.{pair}
use Rattle.node_state.proofs.PeerMaps.{peers_of, no_peers}
use Rattle.node_state.proofs.kept.KeptIndexes.new.Goals as goal

pub returns : goal.returns
returns c = ap (λ (ps : List PeerIndex). peers_of (map pair ps)) c.new.ensures.items ∙ no_peers
