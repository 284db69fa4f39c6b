-- A part of values of five bits has values of five bits.
use Rattle.std.proofs.Common.{ℕ, zero, suc, List, [], ◌∷◌, take, drop, arith}
use Rattle.device_text.specs.Base32.{AreBase32}

pub low_take : (n : ℕ) (l : List ℕ) → AreBase32 l → AreBase32 (take n l)
low_take zero l low i = omega arith
low_take (suc n) [] low i = omega arith
low_take (suc n) (x ∷ l) low zero = low zero
low_take (suc n) (x ∷ l) low (suc i) = low_take n l (λ j. low (suc j)) i

pub low_drop : (n : ℕ) (l : List ℕ) → AreBase32 l → AreBase32 (drop n l)
low_drop zero l low i = low i
low_drop (suc n) [] low i = omega arith
low_drop (suc n) (x ∷ l) low i = low_drop n l (λ j. low (suc j)) i
