use Rattle.std.proofs.Common.{sym, refl, ◌∙◌}
use Rattle.folder_core.specs.PlainPulls.{position_of}
use Rattle.folder_db.proofs.Lists.{inserted, more-copies}
use Rattle.folder_db.proofs.commits.begin.Goals as goal

pub returns-clause-copies : goal.returns-clause-copies
returns-clause-copies c =
    more-copies _ _ c.args.pulls.now.items c.open.new.pulls.items c.reserve.new.self.items c.insert.new.self.items c.position_of-place.result c.in_ok-info.ensures.opened refl (c.reserve.ensures.items ∙ c.requires)
    (c.position_of-place.ensures ∙ (λ i. position_of (c.name.ensures i) (c.deref.ensures.value i)))
    (inserted c.insert.result _ _ _ (sym c.is_err.ensures.value ∙ c.if-is_err.false) c.insert.ensures.items)
