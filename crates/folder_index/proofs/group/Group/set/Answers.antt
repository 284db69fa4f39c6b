use Rattle.std.proofs.Common.{List, length, map, arith, sym, ap, ◌∙◌}
use Rattle.folder_core.specs.declared.announcement.Announcement.{Announcement as Entry}
use Rattle.folder_core.specs.Plain.{filed}
use Rattle.folder_index.specs.NameEntries.{entries_kept, name_kept, room_kept}
use Rattle.folder_index.proofs.Grouped.{group_set}
use Rattle.std.proofs.lemmas.Bool.{true≢false}
use Rattle.folder_index.proofs.group.Group.set.Goals as goal
use Rattle.folder_index.proofs.group.Group.set.Goals.{then-keeps, else-keeps}

pub returns-clause-group : goal.returns-clause-group
returns-clause-group c =
    let is = ap entries_kept c.choose.ensures.kept in
    let len = ap (λ (es : List Entry). length es) is in
    let room = ap room_kept c.choose.ensures.kept in
    group_set c.args.me c.args.device c.args.announced c.args.self.now c.choose.new.self c.requires
    (ap (map filed) is ∙ c.in_ok-set.ensures.placed)
    c.choose.ensures.best c.choose.ensures.needed
    (λ t.
    let kept = sym c.choose.ensures.promised ∙ t in
    elim c.if-keeps.branch [
      | then-keeps w ↦ omega (arith, w.spare-is, c.in_ok-set.ensures.room)
      | else-keeps w ↦ absurd (true≢false (sym kept ∙ w.if-keeps.false))
    ])
    (ap name_kept c.choose.ensures.kept ∙ c.in_ok-set.ensures.name)
    (omega (arith, c.in_ok-set.ensures.short))
