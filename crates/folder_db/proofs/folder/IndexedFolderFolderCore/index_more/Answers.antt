use Rattle.std.proofs.Common.{length, sym, ap, subst, ◌∙◌}
use Rattle.std.proofs.lemmas.Bool.{eqb-true}
use Rattle.std.proofs.lemmas.List.{nil_from_length}
use Rattle.folder_core.specs.Plain.{IsLastOfEach, pulls_of}
use Rattle.folder_core.specs.declared.answer.Answer.TheVariants.{Applied}
use Rattle.folder_index.specs.Indexes.{AreApart, IndexState, with_records}
use Rattle.folder_db.specs.Indexed.{IndexedState, IsIndexed, folder_with}
use Rattle.folder_db.proofs.Messages.{apart-rising, more-counted, more-indexed, more-step, none-counted}
use Rattle.folder_db.proofs.folder.IndexedFolderFolderCore.index_more.Goals as goal

pub set_all-requires : goal.set_all-requires
set_all-requires c =
    record {
      other = λ e. c.requires (e ∙ ap (λ (s : IndexedState). s.folder.me) c.self.view_is);
      apart = subst AreApart (sym c.from_vec.ensures) (apart-rising c.in_ok-latest.latest.items c.in_ok-latest.ensures.last.rise);
    }

pub invariant_of-self-2 : goal.invariant_of-self-2
invariant_of-self-2 c =
    let f = c.self.inside in
    let d = c.args.device in
    let last = subst (λ rs. IsLastOfEach rs c.in_ok-latest.latest.items) c.into_vec.ensures c.in_ok-latest.ensures.last in
    let put = c.in_ok-set_all.ensures.ok ∙ ap (λ rs. with_records d rs f.index) c.from_vec.ensures in
    subst (λ s. IsIndexed s f.last f.pulls.items f.copies.items) (sym put)
    (more-indexed f.index f.last f.pulls.items f.copies.items c.self.invariant d (λ e. c.requires (e ∙ ap (λ (s : IndexedState). s.folder.me) c.self.view_is)) c.args.records c.in_ok-latest.latest.items last)

pub returns-clause-changes : goal.returns-clause-changes
returns-clause-changes c =
    let f = c.self.inside in
    let d = c.args.device in
    let last = subst (λ rs. IsLastOfEach rs c.in_ok-latest.latest.items) c.into_vec.ensures c.in_ok-latest.ensures.last in
    let put = c.in_ok-set_all.ensures.ok ∙ ap (λ rs. with_records d rs f.index) c.from_vec.ensures in
    rw (← c.self.view_is)
    (more-step f.index f.last f.pulls.items f.copies.items c.self.invariant d (λ e. c.requires (e ∙ ap (λ (s : IndexedState). s.folder.me) c.self.view_is)) c.args.records c.in_ok-latest.latest.items last
    ∙ ap (λ s. (Applied, folder_with s f.last (pulls_of f.pulls.items))) (sym put))

pub returns-clause-choices : goal.returns-clause-choices
returns-clause-choices c =
    let f = c.self.inside in
    let d = c.args.device in
    let last = subst (λ rs. IsLastOfEach rs c.in_ok-latest.latest.items) c.into_vec.ensures c.in_ok-latest.ensures.last in
    let put = c.in_ok-set_all.ensures.ok ∙ ap (λ rs. with_records d rs f.index) c.from_vec.ensures in
    rw (← c.self.view_is)
    (ap (λ (s : IndexState). s.choices) put
    ∙ more-counted f.index f.last f.pulls.items f.copies.items c.self.invariant d (λ e. c.requires (e ∙ ap (λ (s : IndexedState). s.folder.me) c.self.view_is)) c.args.records c.in_ok-latest.latest.items last)

pub returns-then-is_empty-clause-choices : goal.returns-then-is_empty-clause-choices
returns-then-is_empty-clause-choices c =
    let none = sym c.as_slice.ensures ∙ nil_from_length c.as_slice.result.now (eqb-true (length c.as_slice.result.now) 0 (sym c.is_empty.ensures ∙ c.if-is_empty.true)) in
    rw (← c.self.view_is) (none-counted c.self.inside.index.choices c.self.invariant.counted c.args.records none)
