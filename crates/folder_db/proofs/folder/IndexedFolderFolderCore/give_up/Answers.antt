use Rattle.std.proofs.Common.{sym, ap, ◌∙◌}
use Rattle.folder_core.specs.Calls.{close_answer}
use Rattle.folder_core.specs.Plain.{pulls_of}
use Rattle.folder_core.specs.declared.pull_stage.PullStage.TheVariants.{Pulling}
use Rattle.folder_db.specs.Indexed.{folder_with}
use Rattle.folder_db.proofs.Pulls.{closed-step, give_up-indexed}
use Rattle.folder_db.proofs.folder.IndexedFolderFolderCore.give_up.Goals as goal

pub invariant_of-self : goal.invariant_of-self
invariant_of-self c =
    let f = c.self.inside in
    give_up-indexed f.index f.last f.pulls.items f.copies.items c.self.invariant c.into_info-info.result c.close.new.pulls.items c.close.new.copies.items c.close.result c.close.ensures.taken c.close.ensures.copies

pub returns-clause-change : goal.returns-clause-change
returns-clause-change c =
    let f = c.self.inside in
    rw (← c.self.view_is) (rw (← c.into_info-info.ensures)
    (closed-step f.index f.last f.pulls.items f.copies.items c.self.invariant c.into_info-info.result Pulling c.close.new.pulls.items c.close.result c.close.ensures.taken
    ∙ ap (λ b. (close_answer b, folder_with f.index f.last (pulls_of c.close.new.pulls.items))) (sym c.is_some.ensures)))
