use Rattle.std.proofs.Common.{◌≡◌, ◌++◌, map, take}
use Rattle.std.specs.Prelude.{flat_map}
use Rattle.node_replay.specs.Recovered.{firsts}
use Rattle.node_replay.proofs.finding.folder_ids.Given as goal

abbrev pub invariant-loop-frame : goal.invariant-loop-frame
invariant-loop-frame l = l.ids.items ≡ firsts (map (λ f. f.id) l.state.folders ++ map (λ p. p.id) (flat_map (λ f. f.folders) (take l.frame-index l.frames)))
