use Rattle.std.proofs.Common.{◌≡◌, ◌+◌, ◌*◌, ◌<◌, ◌≤◌, drop}
use Rattle.device_text.specs.Checks.{luhn_sum}
use Rattle.device_text.proofs.check.check_value.Given as goal

abbrev pub invariant-loop-value : goal.invariant-loop-value
invariant-loop-value l =
    (0 < l.factor) × (l.factor < 3) × (l.sum ≤ 32 * l.value-index)
    × (l.sum + luhn_sum l.factor (drop l.value-index l.values) ≡ luhn_sum 1 l.values)
