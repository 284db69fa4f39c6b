use Rattle.std.proofs.Common.{◌≡◌, ◌++◌, take}
use Rattle.std.specs.List.{flat_map}
use Rattle.bepd.specs.Lines.{best_line}
use Rattle.bepd.proofs.listing.push_bests.Given as goal

abbrev pub invariant-loop-best : goal.invariant-loop-best
invariant-loop-best l = l.lines.items ≡ l.initial.lines.items ++ flat_map (λ b. best_line b.record) (take l.best-index l.bests)
