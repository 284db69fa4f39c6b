use Rattle.std.proofs.Common.{◌++◌, ℕ, List, string_bytes, ◌∙◌, ap, lit<}
use Rattle.sync_names.proofs.UtcLemmas.{appended}
use Rattle.sync_names.proofs.utc.push_date_and_time.Goals as goal

pub returns : goal.returns
returns c =
    appended _ _ _ _ _ _ _ _ _ _ _ _ _ _ _ _ _ c.in_ok-push_two_digits.ensures c.in_ok-push_two_digits-2.ensures c.in_ok-push_two_digits-3.ensures c.in_ok-push_two_digits-4.ensures (c.in_ok-push.ensures.bytes ∙ ap (λ (l : List ℕ). string_bytes c.push_two_digits-4.new.text ++ l) (c.in_ok-push.ensures.ascii (lit< tt))) c.in_ok-push_two_digits-5.ensures c.in_ok-push_two_digits-6.ensures c.in_ok-push_two_digits-7.ensures
