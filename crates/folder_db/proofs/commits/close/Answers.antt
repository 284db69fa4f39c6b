use Rattle.std.proofs.Common.{sym, ap, ◌∙◌}
use Rattle.std.specs.List.{remove}
use Rattle.folder_db.specs.Indexed.{ready_of}
use Rattle.folder_db.proofs.Lists.{map-remove}
use Rattle.folder_db.proofs.commits.close.Goals as goal

pub returns-clause-copies : goal.returns-clause-copies
returns-clause-copies c =
    c.remove.ensures.items ∙ ap (λ xs. remove xs c.in_ok-place.place) c.requires
    ∙ sym (map-remove (λ p. p.ready) c.args.pulls.now.items c.in_ok-place.place) ∙ ap ready_of (sym c.remove-2.ensures.items)
