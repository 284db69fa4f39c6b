use Rattle.std.proofs.Common.{◌≡◌, ℕ, ◌<◌, length, get_or}
use Rattle.device_text.specs.Base32.{base32_values}
use Rattle.device_text.proofs.base32.base32_values.Given as goal

abbrev pub invariant-loop-place : goal.invariant-loop-place
invariant-loop-place l = (length l.values ≡ 52) × ((k : ℕ) → k < l.place → get_or l.values k 0 ≡ get_or (base32_values l.identity) k 0)
