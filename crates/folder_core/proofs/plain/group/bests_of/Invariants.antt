use Rattle.std.proofs.Common.{◌≡◌, ◌++◌, ◌-◌, ◌≤◌, length, map, take, vec_len}
use Rattle.folder_core.specs.Plain.{Rises, listed_bests}
use Rattle.folder_core.proofs.plain.group.bests_of.Given as goal

abbrev pub invariant-loop-first : goal.invariant-loop-first
invariant-loop-first l =
    (map (λ b. (b.record, b.devices)) l.page.items ++ take (l.limit - vec_len l.page) (listed_bests l.rest) ≡ take l.limit (listed_bests l.fn.entries))
    × (vec_len l.page ≤ l.limit)
    × Rises l.rest

abbrev pub decreases-loop-first : goal.decreases-loop-first
decreases-loop-first l = length l.rest
