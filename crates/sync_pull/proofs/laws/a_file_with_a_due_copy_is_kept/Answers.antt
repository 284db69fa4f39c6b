use Rattle.std.proofs.Common.{inl, inr, ◌∙◌}
use Rattle.sync_pull.proofs.laws.a_file_with_a_due_copy_is_kept.Goals as goal

pub returns : goal.returns
returns c n copy old new file kept is =
    elim kept [
      | inl same ↦ inl (same ∙ is)
      | inr moved ↦ inr (moved ∙ is)
    ]
