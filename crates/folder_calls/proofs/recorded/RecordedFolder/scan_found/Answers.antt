use Rattle.std.proofs.Common.{◌≡◌, true, refl, sym, ap, subst, ◌∙◌}
use Rattle.std.specs.Prelude.{IfSome, Ok, option_copied}
use Rattle.folder_core.specs.Calls.{scan_answer}
use Rattle.folder_core.specs.Steps.{is_accepted, step}
use Rattle.folder_core.specs.declared.change.Change.TheVariants.{ScanFound}
use Rattle.folder_calls.specs.RecordedFolders.{Appends, IsRecordedFolder, appended}
use Rattle.folder_calls.proofs.RecordedSteps.{entered-after, refused-after}
use Rattle.folder_calls.proofs.recorded.RecordedFolder.scan_found.Goals as goal

pub returns-in_default-clause-appends : goal.returns-in_default-clause-appends
returns-in_default-clause-appends g c =
    let r = c.admit.ensures.refused (c.in_ok-change-2.was ∙ ap Ok c.in_default.is) in
    refused-after _ c.args.self.now c.self.view_is _ _ _ c.self.invariant c.args.pass c.requires.pass (ScanFound c.args.name.now (option_copied c.args.expected) c.args.found.now c.args.moment) c.requires.found refl refl
    c.admit.new.entries.items c.admit.ensures.items
    (subst (λ x. is_accepted (step (g.C.FolderCore.state c.self.inside.core) x).0 ≡ true) c.in_ok-change.ensures r.1) (sym c.has_room-has_room.ensures ∙ r.0)

pub invariant_of-self-2 : goal.invariant_of-self-2
invariant_of-self-2 g c =
    subst (λ k. IsRecordedFolder (g.C.FolderCore.state c.scan_found-answer.new.self) c.self.inside.pulls k (record { opening = c.self.inside.opening; entries = c.append_scan.new.entries.items; limit = c.self.inside.limit; passes = c.self.inside.passes })) (sym c.append_scan.ensures.capacity)
    (entered-after _ c.args.self.now c.self.view_is _ _ _ c.self.invariant c.args.pass c.requires.pass (ScanFound c.args.name.now (option_copied c.args.expected) c.args.found.now c.args.moment) c.requires.found refl refl
    _ c.admit.ensures.kept
    (λ accepted. let r = c.admit.ensures.admitted _ (c.in_ok-change-2.was ∙ ap Ok c.in-Some.is) (subst (λ x. is_accepted (step (g.C.FolderCore.state c.self.inside.core) x).0 ≡ true) (sym c.in_ok-change.ensures) accepted) in (sym c.has_room-has_room.ensures ∙ r.0, r.1))
    _ c.append_scan.new.entries.items (scan_answer c.scan_found-answer.result) c.scan_found-answer.ensures
    (c.append_scan.ensures.appended
    ∙ ap (λ es. appended es c.args.pass c.in-Some.change (scan_answer c.scan_found-answer.result)) c.admit.ensures.items
    ∙ ap (λ x. appended c.self.inside.entries.items c.args.pass x (scan_answer c.scan_found-answer.result)) (subst (λ o. IfSome o (λ same. same ≡ c.in_ok-change.change)) c.in-Some.is c.in_ok-change-2.ensures.same ∙ c.in_ok-change.ensures))).0

pub returns-clause-appends : goal.returns-clause-appends
returns-clause-appends g c =
    subst (λ o. Appends c.args.self.now c.args.pass (ScanFound c.args.name.now (option_copied c.args.expected) c.args.found.now c.args.moment) o (record { opening = c.self.inside.opening; entries = c.append_scan.new.entries.items; limit = c.self.inside.limit; passes = c.self.inside.passes })) (sym c.append_scan.ensures.answer)
    (entered-after _ c.args.self.now c.self.view_is _ _ _ c.self.invariant c.args.pass c.requires.pass (ScanFound c.args.name.now (option_copied c.args.expected) c.args.found.now c.args.moment) c.requires.found refl refl
    _ c.admit.ensures.kept
    (λ accepted. let r = c.admit.ensures.admitted _ (c.in_ok-change-2.was ∙ ap Ok c.in-Some.is) (subst (λ x. is_accepted (step (g.C.FolderCore.state c.self.inside.core) x).0 ≡ true) (sym c.in_ok-change.ensures) accepted) in (sym c.has_room-has_room.ensures ∙ r.0, r.1))
    _ c.append_scan.new.entries.items (scan_answer c.scan_found-answer.result) c.scan_found-answer.ensures
    (c.append_scan.ensures.appended
    ∙ ap (λ es. appended es c.args.pass c.in-Some.change (scan_answer c.scan_found-answer.result)) c.admit.ensures.items
    ∙ ap (λ x. appended c.self.inside.entries.items c.args.pass x (scan_answer c.scan_found-answer.result)) (subst (λ o. IfSome o (λ same. same ≡ c.in_ok-change.change)) c.in-Some.is c.in_ok-change-2.ensures.same ∙ c.in_ok-change.ensures))).1

pub returns-clause-history : goal.returns-clause-history
returns-clause-history g c =
    (entered-after _ c.args.self.now c.self.view_is _ _ _ c.self.invariant c.args.pass c.requires.pass (ScanFound c.args.name.now (option_copied c.args.expected) c.args.found.now c.args.moment) c.requires.found refl refl
    _ c.admit.ensures.kept
    (λ accepted. let r = c.admit.ensures.admitted _ (c.in_ok-change-2.was ∙ ap Ok c.in-Some.is) (subst (λ x. is_accepted (step (g.C.FolderCore.state c.self.inside.core) x).0 ≡ true) (sym c.in_ok-change.ensures) accepted) in (sym c.has_room-has_room.ensures ∙ r.0, r.1))
    _ c.append_scan.new.entries.items (scan_answer c.scan_found-answer.result) c.scan_found-answer.ensures
    (c.append_scan.ensures.appended
    ∙ ap (λ es. appended es c.args.pass c.in-Some.change (scan_answer c.scan_found-answer.result)) c.admit.ensures.items
    ∙ ap (λ x. appended c.self.inside.entries.items c.args.pass x (scan_answer c.scan_found-answer.result)) (subst (λ o. IfSome o (λ same. same ≡ c.in_ok-change.change)) c.in-Some.is c.in_ok-change-2.ensures.same ∙ c.in_ok-change.ensures))).0.history
