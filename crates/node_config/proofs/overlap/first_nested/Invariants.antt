use Rattle.std.proofs.Common.{◌≡◌, [], take, drop}
use Rattle.node_config.specs.Overlaps.{first_nested}
use Rattle.node_config.proofs.overlap.first_nested.Given as goal

-- what the folders come to is what those that are left come to, after those so far
abbrev pub invariant-loop-place : goal.invariant-loop-place
invariant-loop-place l = first_nested [] l.folders ≡ first_nested (take l.place l.folders) (drop l.place l.folders)
