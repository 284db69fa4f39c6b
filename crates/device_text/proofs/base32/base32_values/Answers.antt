use Rattle.std.proofs.Common.{◌≡◌, ◌*◌, ◌∙◌, arith, rules}
use Rattle.std.proofs.lemmas.List.{length-set}
use Rattle.std.specs.Int.Digits.{number_from_digits}
use Rattle.device_text.specs.Base32.{base32_values}
use Rattle.device_text.proofs.Window.{filled, all_digits, below_from}
use Rattle.device_text.proofs.base32.base32_values.Goals as goal

pub loop-place-init : goal.loop-place-init
loop-place-init c = (search rules, λ k h. absurd (omega arith))

pub loop-place-preserved : goal.loop-place-preserved
loop-place-preserved c = (
  length-set c.loop-place.values c.loop-place.place c.value_at.result ∙ c.loop-place.invariant.0,
  filled c.loop-place.values (base32_values c.args.identity.now) c.loop-place.place c.value_at.result (omega arith) c.value_at.ensures c.loop-place.invariant.1,
)

pub returns : goal.returns
returns c =
    let n = number_from_digits 256 c.args.identity.now * 16 in
    let e : c.loop-place.values ≡ base32_values c.args.identity.now =
    all_digits 32 52 n c.loop-place.values c.loop-place.invariant.0 (λ k h. c.loop-place.invariant.1 k (omega arith)) in
    record { value = e; small = below_from 32 52 n c.loop-place.values (omega arith) e }
