use Rattle.std.proofs.Common.{◌-◌, ap, sym, ◌∙◌}
use Rattle.std.specs.Prelude.{nat_le, option_copied}
use Rattle.folder_core.specs.Plain.{commits}
use Rattle.folder_core.specs.PlainPulls.{pull_for}
use Rattle.folder_core.specs.States.{FolderState, max_sequence}
use Rattle.folder_core.specs.Steps.{is_accepted}
use Rattle.folder_core.specs.declared.answer.Answer.{Answer}
use Rattle.folder_core.specs.declared.pull_stage.PullStage.TheVariants.{Pulling}
use Rattle.folder_db.proofs.Pulls.{enter-accepted, enter-at, enter-stray}
use Rattle.folder_db.proofs.folder.IndexedFolder.accepts_entry.Goals as goal

pub returns-in_default : goal.returns-in_default
returns-in_default c =
    let f = c.self.inside in
    let t = c.args.ticket.now in
    let none = sym (c.in_default.ensures.found ∙ ap (pull_for t Pulling) c.deref.ensures.value) in
    rw (← c.self.view_is) (sym (ap (λ (d : Answer × FolderState). is_accepted d.0) (enter-stray f.index f.last f.pulls.items f.copies.items c.self.invariant t none)))

pub returns : goal.returns
returns c =
    let f = c.self.inside in
    let t = c.args.ticket.now in
    let p = c.index-pull.result.now in
    let is = enter-at f.index f.last f.pulls.items f.copies.items c.self.invariant t c.deref.result.now c.deref.ensures.value c.in-Some.place c.in-Some.ensures.within c.in-Some.ensures.found p c.index-pull.ensures in
    let full = c.is_full-is_full.ensures ∙ ap (nat_le (max_sequence - f.last)) (c.open_commits.ensures ∙ ap commits c.deref-2.ensures.value) in
    rw (← c.self.view_is) (enter-accepted f.index f.last f.pulls.items f.copies.items c.self.invariant t p is c.me.result c.me.ensures c.announcements_of-group.result.now c.announcements_of-group.ensures (option_copied c.record_from-local.result) c.record_from-local.ensures
    c.is_full-is_full.result full c.entry_obstacle.result c.entry_obstacle.ensures c.is_none.result c.is_none.ensures)
