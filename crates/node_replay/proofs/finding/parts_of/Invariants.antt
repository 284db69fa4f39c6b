use Rattle.std.proofs.Common.{◌≡◌, map, take}
use Rattle.node_replay.specs.Told.{parts_of}
use Rattle.node_replay.proofs.finding.parts_of.Given as goal

abbrev pub invariant-loop-frame : goal.invariant-loop-frame
invariant-loop-frame l = map (λ p. p.now) l.parts.items ≡ parts_of l.id (take l.frame-index l.frames)
