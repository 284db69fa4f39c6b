use Rattle.std.proofs.Common.{◌≡◌, [], drop}
use Rattle.toml.specs.View.{items_view}
use Rattle.node_config.specs.Peers.{places_after}
use Rattle.node_config.proofs.peers.read_each_place.Given as goal

-- the places so far, and those of what is left, are those of all
abbrev pub invariant-loop-value : goal.invariant-loop-value
invariant-loop-value l = places_after l.folders l.place l.places (items_view (drop l.value-index l.values)) ≡ places_after l.folders l.place [] (items_view l.values)
