use Rattle.std.proofs.Common.{◌≡◌, [], drop}
use Rattle.toml.specs.View.{items_view}
use Rattle.node_config.specs.Peers.{peers_after}
use Rattle.node_config.proofs.peers.read_each.Given as goal

-- the peers so far, and those of what is left, are those of all
abbrev pub invariant-loop-value : goal.invariant-loop-value
invariant-loop-value l = peers_after l.me l.folders l.peers (items_view (drop l.value-index l.values)) ≡ peers_after l.me l.folders [] (items_view l.values)
