use Rattle.std.proofs.Common.{◌≡◌, Bool, true, false, List, length, refl, sym, ap, ◌∙◌, arith}
use Rattle.std.proofs.lemmas.List.Filters.{length-filter_both}
use Rattle.std.specs.Prelude.{not}
use Rattle.folder_core.specs.declared.announcement.Announcement.{Announcement as Entry}
use Rattle.folder_core.specs.PlainReads.{is_from}
use Rattle.folder_index.specs.NameEntries.{entries_kept, name_kept, room_kept}
use Rattle.folder_index.proofs.Grouped.{group_cleared}
use Rattle.folder_index.proofs.group.Group.clear.Goals as goal

turned : (b : Bool) → b ≡ not (not b)
turned true = refl
turned false = refl

pub choose-requires : goal.choose-requires
choose-requires c =
    let le = length-filter_both (λ e. not (is_from c.args.device e)) (is_from c.args.device) (λ e. turned (is_from c.args.device e)) (entries_kept c.args.self.now.kept) in
    let is = ap (λ (es : List Entry). length es) c.remove.ensures.taken in
    omega (arith, c.requires.short)

pub returns-clause-group : goal.returns-clause-group
returns-clause-group c =
    let n = name_kept c.args.self.now.kept in
    let is = ap entries_kept c.choose.ensures.kept in
    let le = length-filter_both (λ e. not (is_from c.args.device e)) (is_from c.args.device) (λ e. turned (is_from c.args.device e)) (entries_kept c.args.self.now.kept) in
    let len = ap (λ (es : List Entry). length es) (is ∙ c.remove.ensures.taken) in
    let room = ap room_kept c.choose.ensures.kept in
    group_cleared c.args.me n c.args.device c.args.self.now c.choose.new.self c.requires
    (is ∙ c.remove.ensures.taken)
    c.choose.ensures.best c.choose.ensures.needed
    (λ t. let fits = c.requires.fits (sym c.choose.ensures.promised ∙ t) in omega (arith, c.remove.ensures.room))
    (ap name_kept c.choose.ensures.kept ∙ c.remove.ensures.name)
    (omega (arith, c.requires.short))
