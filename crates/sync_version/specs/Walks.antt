-- Two version vectors side by side (own rule).
use Rattle.std.specs.Prelude.{ℕ, List, [], ◌∷◌, map, ◌==◌, if◌then◌else◌}
use Rattle.sync_version.specs.declared.walk.Step.{Step}
use Rattle.sync_version.specs.Versions.{Vector, counter}
use Rattle.sync_version.specs.Computed.{merge}

-- at each id of either vector, in rising id, the counters of both
abbrev pub side_by_side : Vector → Vector → List Step
side_by_side a b = map (λ c. record { id = c.0; ours = counter a c.0; theirs = counter b c.0 }) (merge a b)

-- the vector without its first counter, where that is at this id
abbrev pub past : ℕ → Vector → Vector
past id [] = []
past id (c ∷ cs) = if c.0 == id then cs else c ∷ cs

-- the value of the first counter, where that is at this id, and else 0
abbrev pub first_at : ℕ → Vector → ℕ
first_at id [] = 0
first_at id (c ∷ cs) = if c.0 == id then c.1 else 0
