use Rattle.std.proofs.Common.{◌≡◌, ◌+◌, ◌++◌, drop}
use Rattle.toml.specs.View.{items_view}
use Rattle.node_config.specs.Unknowns.{unknown_in_each}
use Rattle.node_config.proofs.unknown.find_in_each.Given as goal

-- the keys so far, and those of what is left, are those of all
abbrev pub invariant-loop-index : goal.invariant-loop-index
invariant-loop-index l = l.keys.items ++ unknown_in_each l.tables (l.index + 1) (items_view (drop l.index l.values)) ≡ l.initial.keys.items ++ unknown_in_each l.tables 1 (items_view l.values)
