use Rattle.std.proofs.Common.{sym, ap, subst, ◌∙◌}
use Rattle.std.specs.Prelude.{None, Some}
use Rattle.folder_core.specs.Plain.{pulls_of}
use Rattle.folder_core.specs.declared.answer.Answer.TheVariants.{Closed}
use Rattle.folder_core.specs.declared.pull_stage.PullStage.TheVariants.{Committing}
use Rattle.folder_index.specs.Indexes.{IndexState}
use Rattle.folder_db.specs.Indexed.{IsIndexed, folder_with}
use Rattle.folder_db.proofs.Pulls.{abort-indexed, closed-step, stray-indexed}
use Rattle.folder_db.proofs.folder.IndexedFolderFolderCore.abort.Goals as goal

pub close-requires : goal.close-requires
close-requires c = c.self.invariant.copied

pub invariant_of-self : goal.invariant_of-self
invariant_of-self c =
    let f = c.self.inside in
    stray-indexed f.index f.last f.pulls.items f.copies.items c.self.invariant c.close.new.pulls.items c.close.new.copies.items c.in_default.ensures.taken.1 c.in_default.ensures.copies

pub returns-in_default-clause-change : goal.returns-in_default-clause-change
returns-in_default-clause-change c =
    let f = c.self.inside in
    rw (← c.self.view_is) (rw (← c.into_info-info.ensures)
    (closed-step f.index f.last f.pulls.items f.copies.items c.self.invariant c.into_info-info.result Committing c.close.new.pulls.items None c.in_default.ensures.taken))

pub invariant_of-self-2 : goal.invariant_of-self-2
invariant_of-self-2 c =
    let f = c.self.inside in
    subst (λ s. IsIndexed s f.last c.close.new.pulls.items c.close.new.copies.items) (sym c.release.ensures)
    (abort-indexed f.index f.last f.pulls.items f.copies.items c.self.invariant c.into_info-info.result c.close.new.pulls.items c.close.new.copies.items c.in-Some.ensures.copies c.in-Some._closed c.in-Some.ensures.taken.0 c.in-Some.ensures.taken.1)

pub returns-clause-change : goal.returns-clause-change
returns-clause-change c =
    let f = c.self.inside in
    rw (← c.self.view_is) (rw (← c.into_info-info.ensures)
    (closed-step f.index f.last f.pulls.items f.copies.items c.self.invariant c.into_info-info.result Committing c.close.new.pulls.items (Some c.in-Some._closed) c.in-Some.ensures.taken
    ∙ ap (λ (s : IndexState). (Closed, folder_with s f.last (pulls_of c.close.new.pulls.items))) (sym c.release.ensures)))
