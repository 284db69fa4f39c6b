use Rattle.std.proofs.Common.{sym, ◌∙◌}
use Rattle.std.specs.Prelude.{option_copied}
use Rattle.std.proofs.lemmas.Bool.{true≢false}
use Rattle.folder_db.proofs.Pulls.{begin-begun, begin-indexed, begin-is_accepted, begin-refused}
use Rattle.folder_db.proofs.folder.IndexedFolderFolderCore.begin_pull.Goals as goal

pub returns-in-Err-clause-change : goal.returns-in-Err-clause-change
returns-in-Err-clause-change c =
    let f = c.self.inside in
    rw (← c.self.view_is) (rw c.begin_refused.ensures
    (begin-refused f.index f.last f.pulls.items f.copies.items c.self.invariant c.args.name.now c.me.result c.me.ensures c.announcements_of-announced.result.now c.announcements_of-announced.ensures (option_copied c.record_from-base.result) c.record_from-base.ensures
    c.deref.result.now c.deref.ensures.value c.has_pull-is_open.result c.has_pull-is_open.ensures c.in-Err.obstacle c.in-Err.ensures.refused))

pub returns-in_err-info-clause-refused : goal.returns-in_err-info-clause-refused
returns-in_err-info-clause-refused c =
    let f = c.self.inside in
    rw (← c.self.view_is) (λ refused. absurd (true≢false (sym
    (begin-is_accepted f.index f.last f.pulls.items f.copies.items c.self.invariant c.args.name.now c.me.result c.me.ensures c.announcements_of-announced.result.now c.announcements_of-announced.ensures (option_copied c.record_from-base.result) c.record_from-base.ensures
    c.deref.result.now c.deref.ensures.value c.has_pull-is_open.result c.has_pull-is_open.ensures c.in-Ok.best.now c.in-Ok.ensures.best c.in-Ok.ensures.refused) ∙ refused)))

pub begin-requires : goal.begin-requires
begin-requires c = c.self.invariant.copied

pub invariant_of-self-2 : goal.invariant_of-self-2
invariant_of-self-2 c =
    let f = c.self.inside in
    begin-indexed f.index f.last f.pulls.items f.copies.items c.self.invariant c.args.name.now c.me.result c.me.ensures c.announcements_of-announced.result.now c.announcements_of-announced.ensures (option_copied c.record_from-base.result) c.record_from-base.ensures
    c.deref.result.now c.deref.ensures.value c.has_pull-is_open.result c.has_pull-is_open.ensures c.in-Ok.best.now c.in-Ok.ensures.best c.in-Ok.ensures.refused c.begin.new.pulls.items c.in_ok-info.ensures.opened c.begin.new.copies.items c.begin.ensures.copies

pub returns-clause-change : goal.returns-clause-change
returns-clause-change c =
    let f = c.self.inside in
    rw (← c.self.view_is)
    (begin-begun f.index f.last f.pulls.items f.copies.items c.self.invariant c.args.name.now c.me.result c.me.ensures c.announcements_of-announced.result.now c.announcements_of-announced.ensures (option_copied c.record_from-base.result) c.record_from-base.ensures
    c.deref.result.now c.deref.ensures.value c.has_pull-is_open.result c.has_pull-is_open.ensures c.in-Ok.best.now c.in-Ok.ensures.best c.in-Ok.ensures.refused c.begin.new.pulls.items c.in_ok-info.ensures.opened c.new.result (c.new.ensures ∙ c.in_ok-info.ensures.info))
