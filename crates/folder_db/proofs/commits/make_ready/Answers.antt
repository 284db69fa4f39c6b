use Rattle.std.proofs.Common.{sym, ap, ◌∙◌}
use Rattle.std.specs.Prelude.{Some, slice_set}
use Rattle.folder_db.specs.Indexed.{ready_of}
use Rattle.folder_db.proofs.Lists.{map-slice_set}
use Rattle.folder_db.proofs.commits.make_ready.Goals as goal

pub returns-clause-copies : goal.returns-clause-copies
returns-clause-copies c =
    ap (λ xs. slice_set xs c.args.place (Some c.in_ok-copied.copied)) c.requires.copies
    ∙ ap (λ r. slice_set (ready_of c.args.pulls.now) c.args.place (Some r)) c.in_ok-copied.ensures
    ∙ sym (map-slice_set (λ p. p.ready) c.args.pulls.now c.args.place _)
