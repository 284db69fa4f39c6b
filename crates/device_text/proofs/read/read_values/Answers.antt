use Rattle.std.proofs.Common.{◌∙◌, arith, rules}
use Rattle.std.proofs.lemmas.List.{length-set}
use Rattle.device_text.proofs.Reading.{read_more, all_read}
use Rattle.device_text.proofs.read.read_values.Goals as goal

pub loop-place-init : goal.loop-place-init
loop-place-init c = (search rules, λ k h. absurd (omega arith))

pub loop-place-preserved : goal.loop-place-preserved
loop-place-preserved c = (
  length-set c.loop-place.values c.loop-place.place c.in_ok-value.value ∙ c.loop-place.invariant.0,
  read_more c.args.characters.now c.loop-place.values c.loop-place.place c.in_ok-value.value (omega arith) c.in_ok-value.ensures c.loop-place.invariant.1,
)

pub returns : goal.returns
returns c =
    all_read c.args.characters.now c.loop-place.values (omega arith) c.loop-place.invariant.0 (λ k h. c.loop-place.invariant.1 k (omega arith))
