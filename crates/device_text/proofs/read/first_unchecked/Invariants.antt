use Rattle.std.proofs.Common.{ℕ, ◌<◌}
use Rattle.device_text.specs.Read.{IsChecked}
use Rattle.device_text.proofs.read.first_unchecked.Given as goal

abbrev pub invariant-loop-n : goal.invariant-loop-n
invariant-loop-n l = (m : ℕ) → m < l.n → IsChecked l.values m
