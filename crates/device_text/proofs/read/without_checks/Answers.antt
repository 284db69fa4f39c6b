use Rattle.std.proofs.Common.{◌≡◌, ℕ, ◌+◌, ◌/◌, ◌<◌, get_or, ◌∙◌, arith, rules}
use Rattle.std.proofs.lemmas.List.{length-set}
use Rattle.std.proofs.lemmas.List.Edits.{fill_by_more}
use Rattle.device_text.proofs.Others.{others_are, others_small}
use Rattle.device_text.proofs.read.without_checks.Goals as goal

pub loop-place-init : goal.loop-place-init
loop-place-init c = (search rules, λ k h. absurd (omega arith))

pub loop-place-preserved : goal.loop-place-preserved
loop-place-preserved c =
    let v = c.args.values.now in
    let i = c.loop-place.place in (
      length-set c.loop-place.others i (get_or v (i + i / 13) 0) ∙ c.loop-place.invariant.0,
      fill_by_more (λ (n : ℕ). get_or v (n + n / 13) 0) c.loop-place.others i 0 (omega arith) c.loop-place.invariant.1,
    )

pub returns : goal.returns
returns c =
    let v = c.args.values.now in
    let each : (k : ℕ) → k < 52 → get_or c.loop-place.others k 0 ≡ get_or v (k + k / 13) 0 = λ k h. c.loop-place.invariant.1 k (omega arith) in
    record {
      value = others_are c.loop-place.others v c.loop-place.invariant.0 (omega arith) each;
      small = others_small c.loop-place.others v c.loop-place.invariant.0 c.requires.small each;
    }
