use Rattle.std.proofs.Common.{◌≡◌, ◌∷◌, ◌++◌, take}
use Rattle.std.specs.List.{flat_map}
use Rattle.record_lines.specs.Lines.{counter_text}
use Rattle.record_lines.proofs.push_version.Given as goal

abbrev pub invariant-loop-counter : goal.invariant-loop-counter
invariant-loop-counter l =
    l.line.items ≡ l.initial.line.items ++ flat_map (λ c. 44 ∷ counter_text c) (take l.counter-index l.others)
