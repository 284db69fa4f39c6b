use Rattle.std.proofs.Common.{sym, ap, ◌∙◌}
use Rattle.folder_index.proofs.Indexed.{index_released, index_unreleased, moved, some_promised, with_waiting}
use Rattle.folder_index.proofs.index.release_own.Goals as goal
use Rattle.folder_index.proofs.index.release_own.Goals.{then-is_promised, else-is_promised}

pub release-requires : goal.release-requires
release-requires c = some_promised c.args.names.now c.args.local.now c.requires c.args.name.now (sym c.is_promised.ensures ∙ c.if-is_promised.true)

pub returns-clause-index : goal.returns-clause-index
returns-clause-index c =
    let s = c.args.names.now in
    let l = c.args.local.now in
    let n = c.args.name.now in
    elim c.if-is_promised.branch [
      | then-is_promised w ↦
          moved (sym c.release-2.ensures) (sym (w.local-is ∙ ap (λ x. with_waiting x l) w.release.ensures)) (index_released s l c.requires n (sym c.is_promised.ensures ∙ w.if-is_promised.true))
      | else-is_promised w ↦
          moved (sym c.release-2.ensures) (sym w.local-is) (index_unreleased s l c.requires n (sym c.is_promised.ensures ∙ w.if-is_promised.false))
    ]
