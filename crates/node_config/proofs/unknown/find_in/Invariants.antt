use Rattle.std.proofs.Common.{◌≡◌, ◌++◌}
use Rattle.toml.specs.View.{members_view}
use Rattle.node_config.specs.Unknowns.{unknown_in}
use Rattle.node_config.proofs.unknown.find_in.Given as goal

-- the keys so far, and those of what is left, are those of all
abbrev pub invariant-loop-key : goal.invariant-loop-key
invariant-loop-key l = l.keys.items ++ unknown_in l.place (members_view l.key-iterator) ≡ l.initial.keys.items ++ unknown_in l.place (members_view l.table.entries)
