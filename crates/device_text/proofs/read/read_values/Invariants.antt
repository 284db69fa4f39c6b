use Rattle.std.proofs.Common.{◌≡◌, ℕ, ◌<◌, length, get_or}
use Rattle.device_text.specs.Read.{IsValueOf}
use Rattle.device_text.proofs.read.read_values.Given as goal

abbrev pub invariant-loop-place : goal.invariant-loop-place
invariant-loop-place l = (length l.values ≡ 56) × ((k : ℕ) → k < l.place → IsValueOf (get_or l.characters k 0) (get_or l.values k 0))
