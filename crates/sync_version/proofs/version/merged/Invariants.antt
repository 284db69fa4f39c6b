use Rattle.std.proofs.Common.{◌≡◌, ◌++◌, map, max}
use Rattle.sync_version.specs.Walks.{side_by_side}
use Rattle.sync_version.proofs.version.merged.Given as goal

-- the greater counters of the steps so far, and the others are left
abbrev pub invariant-loop-step : goal.invariant-loop-step
invariant-loop-step l =
    (l.counters.items ≡ map (λ s. (s.id, max s.ours s.theirs)) l.yielded)
    × (side_by_side l.fn.walk.ours.now l.fn.walk.theirs.now ≡ l.yielded ++ side_by_side l.step-iterator.ours.now l.step-iterator.theirs.now)
