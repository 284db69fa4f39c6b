use Rattle.std.proofs.Common.{◌≡◌, ◌++◌, ℕ, List, map, take}
use Rattle.node_replay.specs.Recovered.{firsts}
use Rattle.node_replay.proofs.finding.add_stored.Given as goal

abbrev pub invariant-loop-folder : goal.invariant-loop-folder
invariant-loop-folder l = (xs : List (List ℕ)) → l.fn.ids.items ≡ firsts xs → l.ids.items ≡ firsts (xs ++ map (λ f. f.id) (take l.folder-index l.folders))
