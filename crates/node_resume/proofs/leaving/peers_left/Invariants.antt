use Rattle.std.proofs.Common.{◌≡◌, take}
use Rattle.std.specs.Prelude.{map}
use Rattle.std.specs.FinMap.{empty}
use Rattle.std.specs.List.{flat_map, zip}
use Rattle.node_resume.proofs.KeptNumbers.{keep, of_peer}
use Rattle.node_resume.proofs.leaving.peers_left.Given as goal

abbrev pub invariant-loop-i : goal.invariant-loop-i
invariant-loop-i l = l.indexes ≡ keep empty (flat_map (of_peer l.place) (take l.i (zip l.peers (zip (map (λ s. s.items) l.shares) (map (λ k. k.items) l.kept)))))
