use Rattle.std.proofs.Common.{◌/◌, ◌∙◌, arith, rules}
use Rattle.std.proofs.lemmas.List.{length-set}
use Rattle.std.specs.Int.Digits.{number_from_digits}
use Rattle.device_text.specs.Base32.{identity_of}
use Rattle.device_text.proofs.Window.{filled, all_digits}
use Rattle.device_text.proofs.base32.identity_of.Goals as goal

pub loop-place-init : goal.loop-place-init
loop-place-init c = (search rules, λ k h. absurd (omega arith))

pub loop-place-preserved : goal.loop-place-preserved
loop-place-preserved c = (
  length-set c.loop-place.identity c.loop-place.place c.byte_of.result ∙ c.loop-place.invariant.0,
  filled c.loop-place.identity (identity_of c.args.values.now) c.loop-place.place c.byte_of.result (omega arith) c.byte_of.ensures c.loop-place.invariant.1,
)

pub returns : goal.returns
returns c = record {
  value = all_digits 256 32 (number_from_digits 32 c.args.values.now / 16) c.loop-place.identity c.loop-place.invariant.0 (λ k h. c.loop-place.invariant.1 k (omega arith));
}
