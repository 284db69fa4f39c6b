-- A turn of the sum.
use Rattle.std.proofs.Common.{◌≡◌, ℕ, zero, suc, ◌+◌, ◌-◌, ◌*◌, ◌<◌, ◌≤◌, List, [], ◌∷◌, drop, length, get_or, refl, ap, ◌∙◌, arith}
use Rattle.std.proofs.Math.Seq.{drop-cons}
use Rattle.device_text.specs.Checks.{digit_sum, luhn_sum}

pub luhn_more : (xs : List ℕ) (i f : ℕ) → i < length xs
    → luhn_sum f (drop i xs) ≡ digit_sum (f * get_or xs i 0) + luhn_sum (3 - f) (drop (i + 1) xs)
unfolding luhn_sum
luhn_more xs i f h =
    let one : suc i ≡ i + 1 = omega arith in
    ap (luhn_sum f) (drop-cons xs i 0 h)
    ∙ ap (λ (n : ℕ). digit_sum (f * get_or xs i 0) + luhn_sum (3 - f) (drop n xs)) one

pub luhn_none : (xs : List ℕ) (i f : ℕ) → length xs ≤ i → luhn_sum f (drop i xs) ≡ 0
unfolding luhn_sum
luhn_none [] zero f h = refl
luhn_none [] (suc i) f h = refl
luhn_none (x ∷ xs) zero f h = absurd (omega arith)
luhn_none (x ∷ xs) (suc i) f h = luhn_none xs i f (omega arith)

pub product_small : (f v : ℕ) → f < 3 → v < 32 → f * v ≤ 62
product_small zero v h k = omega arith
product_small (suc zero) v h k = omega arith
product_small (suc (suc zero)) v h k = omega arith
product_small (suc (suc (suc f))) v h k = absurd (omega arith)

pub digit_sum_small : (n : ℕ) → n ≤ 62 → digit_sum n ≤ 32
digit_sum_small n h = omega arith
