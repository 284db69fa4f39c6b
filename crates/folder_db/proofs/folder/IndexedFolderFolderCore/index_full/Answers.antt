use Rattle.std.proofs.Common.{◌≡◌, List, sym, ap, subst, ◌∙◌}
use Rattle.std.specs.Prelude.{bytes_eq, filter, not}
use Rattle.std.specs.FinMap.{entries}
use Rattle.std.specs.List.{list_any}
use Rattle.sync_record.specs.Records.{FileRecord}
use Rattle.folder_core.specs.Plain.{IsLastOfEach, NamesRise, pulls_of}
use Rattle.folder_core.specs.declared.answer.Answer.TheVariants.{Applied}
use Rattle.folder_index.specs.Devices.{names_by, without_names}
use Rattle.folder_index.specs.Indexes.{AreApart, IndexState, with_records}
use Rattle.folder_db.specs.Indexed.{IndexedState, IsIndexed, folder_with}
use Rattle.folder_db.proofs.Choices.{full-counted}
use Rattle.folder_db.proofs.Messages.{apart-rising, full-indexed, full-step, stale}
use Rattle.folder_db.proofs.folder.IndexedFolderFolderCore.index_full.Goals as goal

pub set_all-requires : goal.set_all-requires
set_all-requires c =
    record {
      other = λ e. c.requires (e ∙ ap (λ (s : IndexedState). s.folder.me) c.self.view_is);
      apart = subst AreApart (sym c.from_vec.ensures) (apart-rising c.in_ok-latest.latest.items c.in_ok-latest.ensures.last.rise);
    }

pub invariant_of-self-2 : goal.invariant_of-self-2
invariant_of-self-2 c =
    let f = c.self.inside in
    let d = c.args.device in
    let kept = c.in_ok-latest.latest.items in
    let last = subst (λ rs. IsLastOfEach rs kept) c.into_vec.ensures c.in_ok-latest.ensures.last in
    let left : c.in_ok-stale.stale.items ≡ stale d kept f.index.announced =
    c.in_ok-stale.ensures (subst NamesRise (sym c.deref.ensures.value) last.rise)
    ∙ ap (λ (rs : List FileRecord). filter (λ n. not (list_any (λ r. bytes_eq r.name n) rs)) (names_by d (entries f.index.announced))) c.deref.ensures.value in
    let put = c.in_ok-set_all.ensures.ok ∙ ap (λ rs. with_records d rs f.index) c.from_vec.ensures in
    let whole = c.clear_all.ensures ∙ (λ i. without_names d ((c.deref-2.ensures.value ∙ left) i) (put i)) in
    subst (λ s. IsIndexed s f.last f.pulls.items f.copies.items) (sym whole)
    (full-indexed d c.args.records kept last f.index f.last f.pulls.items f.copies.items c.self.invariant (λ e. c.requires (e ∙ ap (λ (s : IndexedState). s.folder.me) c.self.view_is)))

pub returns-clause-changes : goal.returns-clause-changes
returns-clause-changes c =
    let f = c.self.inside in
    let d = c.args.device in
    let kept = c.in_ok-latest.latest.items in
    let last = subst (λ rs. IsLastOfEach rs kept) c.into_vec.ensures c.in_ok-latest.ensures.last in
    let left : c.in_ok-stale.stale.items ≡ stale d kept f.index.announced =
    c.in_ok-stale.ensures (subst NamesRise (sym c.deref.ensures.value) last.rise)
    ∙ ap (λ (rs : List FileRecord). filter (λ n. not (list_any (λ r. bytes_eq r.name n) rs)) (names_by d (entries f.index.announced))) c.deref.ensures.value in
    let put = c.in_ok-set_all.ensures.ok ∙ ap (λ rs. with_records d rs f.index) c.from_vec.ensures in
    let whole = c.clear_all.ensures ∙ (λ i. without_names d ((c.deref-2.ensures.value ∙ left) i) (put i)) in
    rw (← c.self.view_is)
    (full-step d c.args.records kept last f.index f.last f.pulls.items f.copies.items c.self.invariant (λ e. c.requires (e ∙ ap (λ (s : IndexedState). s.folder.me) c.self.view_is))
    ∙ ap (λ s. (Applied, folder_with s f.last (pulls_of f.pulls.items))) (sym whole))

pub returns-clause-choices : goal.returns-clause-choices
returns-clause-choices c =
    let f = c.self.inside in
    let d = c.args.device in
    let kept = c.in_ok-latest.latest.items in
    let last = subst (λ rs. IsLastOfEach rs kept) c.into_vec.ensures c.in_ok-latest.ensures.last in
    let left : c.in_ok-stale.stale.items ≡ stale d kept f.index.announced =
    c.in_ok-stale.ensures (subst NamesRise (sym c.deref.ensures.value) last.rise)
    ∙ ap (λ (rs : List FileRecord). filter (λ n. not (list_any (λ r. bytes_eq r.name n) rs)) (names_by d (entries f.index.announced))) c.deref.ensures.value in
    let put = c.in_ok-set_all.ensures.ok ∙ ap (λ rs. with_records d rs f.index) c.from_vec.ensures in
    let whole = c.clear_all.ensures ∙ (λ i. without_names d ((c.deref-2.ensures.value ∙ left) i) (put i)) in
    rw (← c.self.view_is)
    (ap (λ (s : IndexState). s.choices) whole ∙ full-counted d c.args.records kept last f.index c.self.invariant.counted)
