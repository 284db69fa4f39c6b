use Rattle.std.proofs.Common.{◌≡◌, ℕ, ◌*◌, ◌<◌}
use Rattle.bep_session.specs.Ids.{bit}
use Rattle.bep_session.proofs.bits.first_zero.Given as goal

-- the words so far have no bit that is 0
abbrev pub invariant-loop-i : goal.invariant-loop-i
invariant-loop-i l = (j : ℕ) → j < l.i * 64 → bit l.words j ≡ 1
