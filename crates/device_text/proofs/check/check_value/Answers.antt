use Rattle.std.proofs.Common.{◌≡◌, ℕ, ◌+◌, ◌-◌, ◌*◌, ◌%◌, ◌<◌, ◌≤◌, drop, ap, sym, ◌∙◌, arith}
use Rattle.device_text.specs.Checks.{digit_sum, luhn_sum}
use Rattle.device_text.proofs.Luhn.{luhn_more, luhn_none, product_small, digit_sum_small}
use Rattle.device_text.proofs.check.check_value.Goals as goal

pub loop-value-preserved : goal.loop-value-preserved
loop-value-preserved c =
    let f = c.loop-value.factor in
    let i = c.loop-value.value-index in
    let xs = c.args.values.now in
    let v = c.from.result in
    let low : v < 32 = omega (arith, c.requires.small i) in
    let small : digit_sum (f * v) ≤ 32 = digit_sum_small (f * v) (product_small f v (omega arith) low) in
    let more : luhn_sum f (drop i xs) ≡ digit_sum (f * v) + luhn_sum (3 - f) (drop (i + 1) xs) =
    luhn_more xs i f (omega arith) ∙ ap (λ (x : ℕ). digit_sum (f * x) + luhn_sum (3 - f) (drop (i + 1) xs)) (sym c.from.ensures) in
    (omega arith, omega arith, omega (arith, small), omega (arith, more))

pub returns-clause-value : goal.returns-clause-value
returns-clause-value c =
    let f = c.loop-value.factor in
    let i = c.loop-value.value-index in
    let xs = c.args.values.now in
    let all : c.loop-value.sum ≡ luhn_sum 1 xs = omega (arith, luhn_none xs i f (omega arith)) in
    ap (λ (s : ℕ). (32 - s % 32) % 32) all
