use Rattle.std.proofs.Common.{◌≡◌, [], drop}
use Rattle.toml.specs.View.{items_view}
use Rattle.node_config.specs.Folders.{folders_after}
use Rattle.node_config.proofs.folders.read_each.Given as goal

-- the folders so far, and those of what is left, are those of all
abbrev pub invariant-loop-value : goal.invariant-loop-value
invariant-loop-value l = folders_after l.folders (items_view (drop l.value-index l.values)) ≡ folders_after [] (items_view l.values)
