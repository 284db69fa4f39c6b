use Rattle.std.proofs.Common.{◌≡◌, ℕ, ◌<◌, length, get_or}
use Rattle.device_text.specs.Base32.{identity_of}
use Rattle.device_text.proofs.base32.identity_of.Given as goal

abbrev pub invariant-loop-place : goal.invariant-loop-place
invariant-loop-place l = (length l.identity ≡ 32) × ((k : ℕ) → k < l.place → get_or l.identity k 0 ≡ get_or (identity_of l.values) k 0)
