use Rattle.std.proofs.Common.{◌≡◌, ◌+◌, sym, ap, subst, ◌∙◌}
use Rattle.std.specs.Prelude.{IfSome, Ok, option_map, vec_capacity}
use Rattle.folder_core.specs.declared.answer.Answer.TheVariants.{Begun}
use Rattle.folder_core.specs.declared.change.Change.TheVariants.{BeginPull}
use Rattle.folder_calls.specs.Calls.{begin_value}
use Rattle.folder_calls.specs.RecordedFolders.{IsRecordedFolder, appended}
use Rattle.folder_calls.proofs.RecordedPulls.{begin-after, full-begin}
use Rattle.folder_calls.proofs.recorded.RecordedFolder.begin_pull.Goals as goal

pub returns-in_default-clause-appends : goal.returns-in_default-clause-appends
returns-in_default-clause-appends g c =
    let r = c.admit_begin.ensures.refused (c.in_ok-change.was ∙ ap Ok c.in_default.is) in
    full-begin _ c.args.self.now c.self.view_is _ _ _ c.self.invariant c.args.pass c.requires.pass c.args.name.now
    c.admit_begin.new.entries.items c.admit_begin.ensures.items r.1 (sym c.has_room-has_room.ensures ∙ r.0)

pub invariant_of-self-2 : goal.invariant_of-self-2
invariant_of-self-2 g c =
    subst (λ k. IsRecordedFolder (g.C.FolderCore.state c.begin.new.core) (c.self.inside.pulls + c.append_begin.result) k (record { opening = c.self.inside.opening; entries = c.append_begin.new.entries.items; limit = c.self.inside.limit; passes = c.self.inside.passes })) (sym c.append_begin.ensures.capacity)
    (subst (λ more. IsRecordedFolder (g.C.FolderCore.state c.begin.new.core) (c.self.inside.pulls + more) (vec_capacity c.admit_begin.new.entries) (record { opening = c.self.inside.opening; entries = c.append_begin.new.entries.items; limit = c.self.inside.limit; passes = c.self.inside.passes })) (sym c.append_begin.ensures.opened)
    (begin-after _ c.args.self.now c.self.view_is _ _ _ c.self.invariant c.args.pass c.requires.pass c.args.name.now
    _ c.admit_begin.ensures.kept
    (λ accepted. let r = c.admit_begin.ensures.admitted _ (c.in_ok-change.was ∙ ap Ok c.in-Some.is) accepted in (sym c.has_room-has_room.ensures ∙ r.0, r.1))
    _ (begin_value (Ok c.in_ok-answer.answer)) c.in_ok-answer.ensures.change
    c.in_ok-answer.copy c.in_ok-answer.ensures.begun c.in_ok-answer.ensures.other
    c.append_begin.new.entries.items
    (c.append_begin.ensures.appended
    ∙ ap (λ es. appended es c.args.pass c.in-Some.change (option_map Begun c.in_ok-answer.copy)) c.admit_begin.ensures.items
    ∙ ap (λ x. appended c.self.inside.entries.items c.args.pass x (option_map Begun c.in_ok-answer.copy)) (subst (λ o. IfSome o (λ change. change ≡ BeginPull c.args.name.now)) c.in-Some.is c.in_ok-change.ensures.same))).0)

pub returns-clause-appends : goal.returns-clause-appends
returns-clause-appends g c =
    (begin-after _ c.args.self.now c.self.view_is _ _ _ c.self.invariant c.args.pass c.requires.pass c.args.name.now
    _ c.admit_begin.ensures.kept
    (λ accepted. let r = c.admit_begin.ensures.admitted _ (c.in_ok-change.was ∙ ap Ok c.in-Some.is) accepted in (sym c.has_room-has_room.ensures ∙ r.0, r.1))
    _ (begin_value (Ok c.in_ok-answer.answer)) c.in_ok-answer.ensures.change
    c.in_ok-answer.copy c.in_ok-answer.ensures.begun c.in_ok-answer.ensures.other
    c.append_begin.new.entries.items
    (c.append_begin.ensures.appended
    ∙ ap (λ es. appended es c.args.pass c.in-Some.change (option_map Begun c.in_ok-answer.copy)) c.admit_begin.ensures.items
    ∙ ap (λ x. appended c.self.inside.entries.items c.args.pass x (option_map Begun c.in_ok-answer.copy)) (subst (λ o. IfSome o (λ change. change ≡ BeginPull c.args.name.now)) c.in-Some.is c.in_ok-change.ensures.same))).1

pub returns-clause-history : goal.returns-clause-history
returns-clause-history g c =
    (begin-after _ c.args.self.now c.self.view_is _ _ _ c.self.invariant c.args.pass c.requires.pass c.args.name.now
    _ c.admit_begin.ensures.kept
    (λ accepted. let r = c.admit_begin.ensures.admitted _ (c.in_ok-change.was ∙ ap Ok c.in-Some.is) accepted in (sym c.has_room-has_room.ensures ∙ r.0, r.1))
    _ (begin_value (Ok c.in_ok-answer.answer)) c.in_ok-answer.ensures.change
    c.in_ok-answer.copy c.in_ok-answer.ensures.begun c.in_ok-answer.ensures.other
    c.append_begin.new.entries.items
    (c.append_begin.ensures.appended
    ∙ ap (λ es. appended es c.args.pass c.in-Some.change (option_map Begun c.in_ok-answer.copy)) c.admit_begin.ensures.items
    ∙ ap (λ x. appended c.self.inside.entries.items c.args.pass x (option_map Begun c.in_ok-answer.copy)) (subst (λ o. IfSome o (λ change. change ≡ BeginPull c.args.name.now)) c.in-Some.is c.in_ok-change.ensures.same))).0.history
