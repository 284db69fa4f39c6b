use Rattle.std.proofs.Common.{sym, ap, subst, ◌∙◌}
use Rattle.folder_core.specs.Plain.{Rises}
use Rattle.folder_index.specs.NameEntries.{AreNamed, entries_kept, is_alone, name_kept, name_of_first}
use Rattle.folder_index.proofs.Keeping.{name_stays}
use Rattle.folder_index.proofs.name_entries.NameEntries.remove.Goals as goal

pub returns-else-is_alone-clause-name : goal.returns-else-is_alone-clause-name
returns-else-is_alone-clause-name c =
    let es = c.in-Many.entries.items in
    ap name_of_first c.remove_from-else-is_alone.ensures.taken
    ∙ name_stays (name_kept c.args.self.now) c.args.device es
    (ap (is_alone c.args.device) (sym c.as_slice.ensures.value) ∙ sym c.is_alone.ensures ∙ c.if-is_alone.false)
    (subst (λ k. Rises (entries_kept k)) c.in-Many.is c.requires.rises)
    (subst (λ k. AreNamed (name_kept c.args.self.now) (entries_kept k)) c.in-Many.is c.requires.named)
    ∙ ap name_kept (sym c.in-Many.is)
