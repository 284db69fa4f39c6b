use Rattle.std.proofs.Common.{sym, ap, subst, ◌∙◌}
use Rattle.folder_core.specs.Plain.{pulls_of}
use Rattle.folder_core.specs.declared.answer.Answer.TheVariants.{Applied}
use Rattle.folder_index.specs.Indexes.{IndexState}
use Rattle.folder_db.specs.Indexed.{IndexedState, IsIndexed, folder_with}
use Rattle.folder_db.proofs.Choices.{forget-counted}
use Rattle.folder_db.proofs.Messages.{forget-indexed, forget-step}
use Rattle.folder_db.proofs.folder.IndexedFolderFolderCore.forget.Goals as goal

pub forget-requires : goal.forget-requires
forget-requires c = λ e. c.requires (e ∙ ap (λ (s : IndexedState). s.folder.me) c.self.view_is)

pub invariant_of-self-2 : goal.invariant_of-self-2
invariant_of-self-2 c =
    let f = c.self.inside in
    subst (λ s. IsIndexed s f.last f.pulls.items f.copies.items) (sym c.in_ok-forget.ensures.ok)
    (forget-indexed f.index f.last f.pulls.items f.copies.items c.self.invariant c.args.device (λ e. c.requires (e ∙ ap (λ (s : IndexedState). s.folder.me) c.self.view_is)))

pub returns-clause-changes : goal.returns-clause-changes
returns-clause-changes c =
    let f = c.self.inside in
    rw (← c.self.view_is)
    (forget-step f.index f.last f.pulls.items f.copies.items c.self.invariant c.args.device (λ e. c.requires (e ∙ ap (λ (s : IndexedState). s.folder.me) c.self.view_is))
    ∙ ap (λ s. (Applied, folder_with s f.last (pulls_of f.pulls.items))) (sym c.in_ok-forget.ensures.ok))

pub returns-clause-choices : goal.returns-clause-choices
returns-clause-choices c =
    let f = c.self.inside in
    let d = c.args.device in
    rw (← c.self.view_is) (ap (λ (s : IndexState). s.choices) c.in_ok-forget.ensures.ok ∙ forget-counted d f.index c.self.invariant.counted)
