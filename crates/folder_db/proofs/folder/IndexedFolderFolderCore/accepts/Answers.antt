use Rattle.std.proofs.Common.{sym, ap, inl, inr, ◌∙◌}
use Rattle.folder_core.specs.Steps.{is_accepted, step}
use Rattle.folder_core.specs.declared.change.Change.{Change}
use Rattle.folder_core.specs.declared.change.Change.TheVariants.{ScanFound}
use Rattle.folder_core.proofs.PlainFinish.{close-accepted, finish-accepted}
use Rattle.folder_db.proofs.folder.IndexedFolderFolderCore.accepts.Goals as goal

pub returns-in-ScanFound : goal.returns-in-ScanFound
returns-in-ScanFound c =
    let s = c.args.self.now.folder in
    c.accepts_found.ensures c.in-ScanFound.moment
    ∙ ap (λ e. is_accepted (step s (ScanFound c.in-ScanFound.name e c.in-ScanFound.found c.in-ScanFound.moment)).0) c.as_ref.ensures.value
    ∙ ap (λ (x : Change). is_accepted (step s x).0) (sym c.in-ScanFound.is)

pub returns-in-GiveUp : goal.returns-in-GiveUp
returns-in-GiveUp c =
    let s = c.args.self.now.folder in
    c.has_open.ensures ∙ sym (close-accepted s c.in-GiveUp.ticket _) ∙ ap (λ (x : Change). is_accepted (step s x).0) (sym c.in-GiveUp.is)

pub returns-in-Finish : goal.returns-in-Finish
returns-in-Finish c =
    let s = c.args.self.now.folder in
    elim c.in-Finish.is [
      | inl finished ↦ c.has_open-in-Finish.ensures ∙ sym (finish-accepted s c.in-Finish.commit _) ∙ ap (λ (x : Change). is_accepted (step s x).0) (sym finished.1)
      | inr aborted ↦ c.has_open-in-Finish.ensures ∙ sym (close-accepted s c.in-Finish.commit _) ∙ ap (λ (x : Change). is_accepted (step s x).0) (sym aborted)
    ]
