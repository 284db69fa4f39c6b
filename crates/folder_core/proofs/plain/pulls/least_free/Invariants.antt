use Rattle.std.proofs.Common.{◌≡◌, ℕ, ◌+◌, ◌<◌, ◌≤◌, true}
use Rattle.folder_core.proofs.PlainNumber.{is_used}
use Rattle.folder_core.proofs.plain.pulls.least_free.Given as goal

abbrev pub invariant-loop-lesser : goal.invariant-loop-lesser
invariant-loop-lesser l = (m : ℕ) → 1 ≤ m → m < l.lesser + 1 → is_used l.pulls m ≡ true
