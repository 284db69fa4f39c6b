use Rattle.std.proofs.Common.{◌≡◌, ℕ, inl, inr}
use Rattle.sync_pull.specs.Moments.{begun, checked, entered, not_begun, not_entered, unchanged}
use Rattle.sync_pull.specs.declared.answer.PullAnswer.TheVariants.{Done, Refused}
use Rattle.sync_pull.specs.declared.answer.PullRefusal.TheVariants.{OutOfMemory}
use Rattle.sync_pull.proofs.laws.what_is_replaced_was_checked_first.Goals as goal

done-refused : (k : ℕ) → Done k ≡ Refused OutOfMemory → ⊥
done-refused k is = cc

pub returns : goal.returns
returns g c gate moment n sequence old new before after (not_begun (inl (answer, by, got)) same) = absurd by
returns g c gate moment n sequence old new before after (not_begun (inr (is, still)) same) = absurd (done-refused sequence is)
returns g c gate moment n sequence old new before after (begun t view gets ends (not_entered undone calls)) = absurd undone
returns g c gate moment n sequence old new before after (begun t view gets ends (entered seen mid calls asks shown (unchanged undone rest))) = absurd undone
returns g c gate moment n sequence old new before after (begun t view gets ends (entered seen mid calls asks shown (checked said stands rest))) =
    (t, view, seen, gets, asks, mid, said, calls, shown, stands, rest)
