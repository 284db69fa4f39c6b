use Rattle.std.proofs.Common.{◌≡◌, ◌++◌}
use Rattle.std.specs.Prelude.{nat_le}
use Rattle.std.specs.List.{list_all}
use Rattle.sync_version.specs.Walks.{side_by_side}
use Rattle.sync_version.proofs.version.Version.relation.Given as goal

-- what the steps so far tell, and that the others are left
abbrev pub invariant-loop-step : goal.invariant-loop-step
invariant-loop-step l =
    (l.covers ≡ list_all (λ s. nat_le s.theirs s.ours) l.yielded)
    × (l.covered ≡ list_all (λ s. nat_le s.ours s.theirs) l.yielded)
    × (side_by_side l.self l.other ≡ l.yielded ++ side_by_side l.step-iterator.ours.now l.step-iterator.theirs.now)
