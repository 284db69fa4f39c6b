use Rattle.std.proofs.Common.{sym, ◌∙◌}
use Rattle.std.proofs.lemmas.Bool.{false≢true}
use Rattle.sync_pull.proofs.OldCopyLemmas.{equal-text}
use Rattle.sync_pull.proofs.old_copies.is_old_copy.Goals as goal

pub returns-else-ne : goal.returns-else-ne
returns-else-ne c =
    let same = sym c.as_str.ensures.value ∙ equal-text c.as_str.result.now c.as_str-in-File.result.now c.if-ne.ensures ∙ c.as_str-in-File.ensures.value in
    (λ yes. absurd (false≢true (sym c.if-ne.false ∙ yes)), λ listed. absurd (listed.2 same))
