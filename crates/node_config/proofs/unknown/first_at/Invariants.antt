use Rattle.std.proofs.Common.{◌≡◌, drop}
use Rattle.node_config.specs.Unknowns.{first_at}
use Rattle.node_config.proofs.unknown.first_at.Given as goal

-- the first of those that are left is the first of all
abbrev pub invariant-loop-key : goal.invariant-loop-key
invariant-loop-key l = first_at l.edits l.text (drop l.key-index l.keys) ≡ first_at l.edits l.text l.keys
