use Rattle.std.proofs.Common.{◌≡◌, ◌-◌, ap, sym, ◌∙◌}
use Rattle.std.specs.Prelude.{filter, nat_le}
use Rattle.folder_core.specs.declared.pull_stage.PullStage.TheVariants.{Pulling}
use Rattle.folder_core.specs.Plain.{commits}
use Rattle.folder_core.specs.PlainPulls.{pull_for}
use Rattle.folder_core.specs.PlainScans.{first_of}
use Rattle.folder_core.specs.States.{max_sequence}
use Rattle.folder_core.specs.declared.answer.Answer.{Answer}
use Rattle.folder_core.specs.States.{FolderState}
use Rattle.folder_core.specs.Steps.{is_accepted}
use Rattle.folder_core.proofs.PlainBegin.{own-is}
use Rattle.folder_core.proofs.PlainEnter.{enter-accepted, enter-at, enter-stray, tests-are}
use Rattle.folder_core.proofs.PlainGroup.{is_named}
use Rattle.folder_core.proofs.plain.PlainFolder.accepts_entry.Goals as goal

pub returns-in_default : goal.returns-in_default
returns-in_default c =
    let f = c.self.inside in
    let t = c.args.ticket.now in
    let none = sym (c.in_default.ensures.found ∙ ap (pull_for t Pulling) c.deref.ensures.value) in
    rw (← c.self.view_is) (sym (ap (λ (d : Answer × FolderState). is_accepted d.0) (enter-stray f.me f.entries.items _ f.last f.pulls.items c.self.invariant t none)))

pub returns : goal.returns
returns c =
    let f = c.self.inside in
    let t = c.args.ticket.now in
    let p = c.index-pull.result.now in
    let is = enter-at f.me f.entries.items _ f.last f.pulls.items c.self.invariant t c.deref.result.now c.deref.ensures.value c.in-Some.place c.in-Some.ensures.within c.in-Some.ensures.found p c.index-pull.ensures in
    let group : c.entries_of-group.result.now ≡ filter (is_named t.name) f.entries.items = c.entries_of-group.ensures ∙ ap (filter (is_named t.name)) c.as_slice.ensures.value in
    let own = own-is f.me f.entries.items _ f.last f.pulls.items c.self.invariant t.name _ group _ c.record_from-local.ensures in
    let full = c.is_full-is_full.ensures ∙ ap (nat_le (max_sequence - f.last)) (c.open_commits.ensures ∙ ap commits c.deref-2.ensures.value) in
    let told = c.entry_obstacle.ensures ∙ ap first_of (tests-are f.me f.entries.items _ f.last f.pulls.items c.self.invariant t p is _ _ _ group own full) in
    rw (← c.self.view_is) (enter-accepted f.me f.entries.items _ f.last f.pulls.items c.self.invariant t p is c.entry_obstacle.result told c.is_none.result c.is_none.ensures)
