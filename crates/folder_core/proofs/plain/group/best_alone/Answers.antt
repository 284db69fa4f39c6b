use Rattle.std.proofs.Common.{◌++◌, ◌∷◌, [], Some, sym, ap, ◌∙◌}
use Rattle.folder_core.proofs.PlainFound.{alone_best}
use Rattle.folder_core.proofs.plain.group.best_alone.Goals as goal

pub returns-clause-found : goal.returns-clause-found
returns-clause-found c =
    let e = c.args.entry.now in
    (λ i. Some (c.in_ok-copy.ensures i, (c.in_ok-push.ensures.ok ∙ ap (λ ds. ds ++ e.device ∷ []) c.new-devices.ensures) i)) ∙ alone_best e (sym c.is_valid.ensures ∙ c.if-not-is_valid.false)
