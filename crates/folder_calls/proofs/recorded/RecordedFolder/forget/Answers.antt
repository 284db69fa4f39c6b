use Rattle.std.proofs.Common.{refl, sym, ap, ◌∙◌, arith}
use Rattle.folder_core.specs.States.{FolderState}
use Rattle.folder_core.specs.declared.answer.Answer.TheVariants.{Applied}
use Rattle.folder_core.specs.declared.change.Change.TheVariants.{Forget}
use Rattle.folder_calls.specs.declared.history.History.{History}
use Rattle.folder_calls.proofs.HistoryEntries.{state-me}
use Rattle.folder_calls.proofs.RecordedSteps.{found-room, history-after, recorded-after, pushed-as}
use Rattle.folder_calls.proofs.recorded.RecordedFolder.forget.Goals as goal

pub forget-requires : goal.forget-requires
forget-requires g c = λ e. c.requires.device (e ∙ ap (λ (s : FolderState). s.me) c.self.invariant.state_is ∙ state-me c.self.inside.opening c.self.inside.entries.items ∙ ap (λ (h : History). h.opening.me) c.self.view_is)

pub invariant_of-self-2 : goal.invariant_of-self-2
invariant_of-self-2 g c =
    let made = c.in_ok-forget.ensures in
    let room = found-room _ c.args.self.now c.self.view_is _ _ _ c.self.invariant c.args.pass c.requires.pass (Forget c.args.device) c.requires.device Applied _ made refl (sym c.has_room.ensures ∙ c.if-not-has_room.false) refl in
    let more = c.in_ok-make_room.ensures.room refl in
    let same = c.append.ensures.capacity in
    recorded-after _ c.args.self.now c.self.view_is _ _ _ c.self.invariant c.args.pass c.requires.pass (Forget c.args.device) c.requires.device Applied _ made refl room
    c.append.new.entries.items (pushed-as _ c.append.ensures.items c.make_room.ensures.items refl refl)
    c.self.inside.pulls _ refl (omega arith)

pub returns-clause-history : goal.returns-clause-history
returns-clause-history g c =
    let made = c.in_ok-forget.ensures in
    let room = found-room _ c.args.self.now c.self.view_is _ _ _ c.self.invariant c.args.pass c.requires.pass (Forget c.args.device) c.requires.device Applied _ made refl (sym c.has_room.ensures ∙ c.if-not-has_room.false) refl in
    history-after _ c.args.self.now c.self.view_is _ _ _ c.self.invariant c.args.pass c.requires.pass (Forget c.args.device) c.requires.device Applied _ made refl room
    c.append.new.entries.items (pushed-as _ c.append.ensures.items c.make_room.ensures.items refl refl)
