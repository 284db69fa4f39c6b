use Rattle.std.specs.Prelude.{IfSome, Ok}
use Rattle.std.proofs.Common.{◌≡◌, true, refl, sym, ap, subst, ◌∙◌}
use Rattle.folder_core.specs.Calls.{Changes, enter_answer}
use Rattle.folder_core.specs.Steps.{is_accepted, step}
use Rattle.folder_core.specs.declared.change.Change.TheVariants.{EnterCommit}
use Rattle.folder_calls.specs.RecordedFolders.{Appends, IsRecordedFolder, appended}
use Rattle.folder_calls.proofs.RecordedPulls.{commit-copies}
use Rattle.folder_calls.proofs.RecordedSteps.{entered-after, refused-after}
use Rattle.folder_calls.proofs.recorded.RecordedFolder.enter_commit.Goals as goal

pub returns-in-Ok-None-clause-appends : goal.returns-in-Ok-None-clause-appends
returns-in-Ok-None-clause-appends g c =
    let r = c.in-Ok-None.ensures.refused (ap Ok c.in-Ok-None.field-0-is) in
    refused-after _ c.args.self.now c.self.view_is _ _ _ c.self.invariant c.args.pass c.requires.pass (EnterCommit c.args.ticket) tt refl refl
    c.admit.new.entries.items c.admit.ensures.items
    (subst (λ t. is_accepted (step (g.C.FolderCore.state c.self.inside.core) (EnterCommit t)).0 ≡ true) (c.in-Ok.ensures.0 ∙ c.ticket.view_is) r.1) (sym c.has_room-has_room.ensures ∙ r.0)

pub append_enter-requires-clause-same : goal.append_enter-requires-clause-same
append_enter-requires-clause-same g c =
    commit-copies _ _ c.ticket.inside.inner _ _ c.enter_commit-entered.result (c.in-Ok.ensures.1 ∙ sym c.ticket.invariant) (sym c.ticket.invariant)
    c.enter_commit-entered.ensures.change

pub invariant_of-self-2 : goal.invariant_of-self-2
invariant_of-self-2 g c =
    subst (λ k. IsRecordedFolder (g.C.FolderCore.state c.enter_commit-entered.new.self) c.self.inside.pulls k (record { opening = c.self.inside.opening; entries = c.append_enter.new.entries.items; limit = c.self.inside.limit; passes = c.self.inside.passes })) (sym c.append_enter.ensures.capacity)
    (entered-after _ c.args.self.now c.self.view_is _ _ _ c.self.invariant c.args.pass c.requires.pass (EnterCommit c.args.ticket) tt refl refl
    _ c.admit.ensures.kept
    (λ accepted. let r = c.in-Ok-Some.ensures.admitted _ (ap Ok c.in-Ok-Some.field-0-is) (subst (λ t. is_accepted (step (g.C.FolderCore.state c.self.inside.core) (EnterCommit t)).0 ≡ true) (sym (c.in-Ok.ensures.0 ∙ c.ticket.view_is)) accepted) in (sym c.has_room-has_room.ensures ∙ r.0, r.1))
    _ c.append_enter.new.entries.items (enter_answer c.enter_commit-entered.result)
    (subst (λ t. Changes (g.C.FolderCore.state c.self.inside.core) (EnterCommit t) (enter_answer c.enter_commit-entered.result) (g.C.FolderCore.state c.enter_commit-entered.new.self)) (c.ticket.invariant ∙ c.ticket.view_is) c.enter_commit-entered.ensures.change)
    (c.append_enter.ensures.appended
    ∙ ap (λ es. appended es c.args.pass c.in-Ok-Some.change (enter_answer c.enter_commit-entered.result)) c.admit.ensures.items
    ∙ ap (λ x. appended c.self.inside.entries.items c.args.pass x (enter_answer c.enter_commit-entered.result)) (subst (λ o. IfSome o (λ same. same ≡ EnterCommit c.in-Ok.asked)) c.in-Ok-Some.field-0-is c.in-Ok-Some.ensures.same ∙ ap EnterCommit (c.in-Ok.ensures.0 ∙ c.ticket.view_is)))).0

pub returns-clause-appends : goal.returns-clause-appends
returns-clause-appends g c =
    subst (λ o. Appends c.args.self.now c.args.pass (EnterCommit c.args.ticket) o (record { opening = c.self.inside.opening; entries = c.append_enter.new.entries.items; limit = c.self.inside.limit; passes = c.self.inside.passes })) (sym c.append_enter.ensures.answer)
    (entered-after _ c.args.self.now c.self.view_is _ _ _ c.self.invariant c.args.pass c.requires.pass (EnterCommit c.args.ticket) tt refl refl
    _ c.admit.ensures.kept
    (λ accepted. let r = c.in-Ok-Some.ensures.admitted _ (ap Ok c.in-Ok-Some.field-0-is) (subst (λ t. is_accepted (step (g.C.FolderCore.state c.self.inside.core) (EnterCommit t)).0 ≡ true) (sym (c.in-Ok.ensures.0 ∙ c.ticket.view_is)) accepted) in (sym c.has_room-has_room.ensures ∙ r.0, r.1))
    _ c.append_enter.new.entries.items (enter_answer c.enter_commit-entered.result)
    (subst (λ t. Changes (g.C.FolderCore.state c.self.inside.core) (EnterCommit t) (enter_answer c.enter_commit-entered.result) (g.C.FolderCore.state c.enter_commit-entered.new.self)) (c.ticket.invariant ∙ c.ticket.view_is) c.enter_commit-entered.ensures.change)
    (c.append_enter.ensures.appended
    ∙ ap (λ es. appended es c.args.pass c.in-Ok-Some.change (enter_answer c.enter_commit-entered.result)) c.admit.ensures.items
    ∙ ap (λ x. appended c.self.inside.entries.items c.args.pass x (enter_answer c.enter_commit-entered.result)) (subst (λ o. IfSome o (λ same. same ≡ EnterCommit c.in-Ok.asked)) c.in-Ok-Some.field-0-is c.in-Ok-Some.ensures.same ∙ ap EnterCommit (c.in-Ok.ensures.0 ∙ c.ticket.view_is)))).1

pub returns-clause-history : goal.returns-clause-history
returns-clause-history g c =
    (entered-after _ c.args.self.now c.self.view_is _ _ _ c.self.invariant c.args.pass c.requires.pass (EnterCommit c.args.ticket) tt refl refl
    _ c.admit.ensures.kept
    (λ accepted. let r = c.in-Ok-Some.ensures.admitted _ (ap Ok c.in-Ok-Some.field-0-is) (subst (λ t. is_accepted (step (g.C.FolderCore.state c.self.inside.core) (EnterCommit t)).0 ≡ true) (sym (c.in-Ok.ensures.0 ∙ c.ticket.view_is)) accepted) in (sym c.has_room-has_room.ensures ∙ r.0, r.1))
    _ c.append_enter.new.entries.items (enter_answer c.enter_commit-entered.result)
    (subst (λ t. Changes (g.C.FolderCore.state c.self.inside.core) (EnterCommit t) (enter_answer c.enter_commit-entered.result) (g.C.FolderCore.state c.enter_commit-entered.new.self)) (c.ticket.invariant ∙ c.ticket.view_is) c.enter_commit-entered.ensures.change)
    (c.append_enter.ensures.appended
    ∙ ap (λ es. appended es c.args.pass c.in-Ok-Some.change (enter_answer c.enter_commit-entered.result)) c.admit.ensures.items
    ∙ ap (λ x. appended c.self.inside.entries.items c.args.pass x (enter_answer c.enter_commit-entered.result)) (subst (λ o. IfSome o (λ same. same ≡ EnterCommit c.in-Ok.asked)) c.in-Ok-Some.field-0-is c.in-Ok-Some.ensures.same ∙ ap EnterCommit (c.in-Ok.ensures.0 ∙ c.ticket.view_is)))).0.history
