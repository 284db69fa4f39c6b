use Rattle.std.proofs.Common.{◌≡◌, List, [], ◌∷◌, ◌++◌, sym, ap, ◌∙◌}
use Rattle.std.specs.Prelude.{Some, slice_get}
use Rattle.sync_record.specs.Devices.{Identity}
use Rattle.folder_core.specs.Plain.{devices_with}
use Rattle.folder_index.proofs.Chosen.{only_has}
use Rattle.folder_index.proofs.group.Group.devices_with.Goals as goal

pub returns-in_ok-push-in-len1 : goal.returns-in_ok-push-in-len1
returns-in_ok-push-in-len1 c =
    let es = c.entries.result.now in
    let g = c.args.self.now in
    let b = c.args.best.now in
    let at : slice_get es g.best_place ≡ Some b = ap (λ l. slice_get l g.best_place) c.entries.ensures ∙ c.requires in
    c.in_ok-push-in-len1.ensures.items
    ∙ ap (λ (ds : List Identity). ds ++ c.only-item.result.device ∷ []) c.in_ok-devices-in-len1.ensures.items
    ∙ only_has es c.only-item.result b g.best_place c.in-len1.len_at_least c.in-len1.len_below c.only-item.is at (sym c.is_valid.ensures ∙ c.if-is_valid.true)
    ∙ ap (λ l. devices_with l b.record) c.entries.ensures
