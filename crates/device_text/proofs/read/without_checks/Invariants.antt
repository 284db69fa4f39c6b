use Rattle.std.proofs.Common.{◌≡◌, ℕ, ◌+◌, ◌/◌, ◌<◌, length, get_or}
use Rattle.device_text.proofs.read.without_checks.Given as goal

abbrev pub invariant-loop-place : goal.invariant-loop-place
invariant-loop-place l = (length l.others ≡ 52) × ((k : ℕ) → k < l.place → get_or l.others k 0 ≡ get_or l.values (k + k / 13) 0)
