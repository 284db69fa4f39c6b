-- Numbers with commas.
use Rattle.std.proofs.Common.{◌≡◌, ◌≢◌, ◌≤◌, ℕ, zero, suc, ◌-◌, ◌/◌, ◌%◌, ◌<◌, ◌++◌, refl, arith, codes}
use Rattle.std.specs.Fmt.{decimal}
use Rattle.std.proofs.lemmas.Bool.{cond-true, cond-false, lt-ltb, le-ltb}
use Rattle.std.specs.Prelude.{nat_lt}
use Rattle.node_status.specs.Numbers.{grouped, three_digits}

-- no comma at all
pub grouped_none : (k n : ℕ) → k ≡ 0 → grouped k n ≡ decimal n
unfolding grouped
grouped_none zero n h = refl
grouped_none (suc k) n h = absurd (omega arith)

-- a number below a thousand has none
pub grouped_small : (k n : ℕ) → n < 1000 → grouped k n ≡ decimal n
unfolding grouped
grouped_small zero n h = refl
grouped_small (suc k) n h = cond-true (nat_lt n 1000) (decimal n) (grouped k (n / 1000) ++ codes "," ++ three_digits (n % 1000)) (lt-ltb n 1000 h)

before : (k : ℕ) → suc k - 1 ≡ k
before k = omega arith

-- another has one before its last three digits
pub grouped_more : (k n : ℕ) → k ≢ 0 → 1000 ≤ n → grouped k n ≡ grouped (k - 1) (n / 1000) ++ codes "," ++ three_digits (n % 1000)
unfolding grouped
grouped_more zero n some h = absurd (some refl)
grouped_more (suc k) n some h = rw (before k) (cond-false (nat_lt n 1000) (decimal n) (grouped k (n / 1000) ++ codes "," ++ three_digits (n % 1000)) (le-ltb n 1000 h))
