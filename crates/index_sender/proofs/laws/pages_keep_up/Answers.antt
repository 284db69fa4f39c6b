use Rattle.std.proofs.Common.{◌≡◌, ◌≤◌, List, [], ◌∷◌, ◌++◌, refl, sym, ap, subst, ◌∙◌, arith, inl, inr}
use Rattle.std.proofs.lemmas.Option.{none-some}
use Rattle.folder_core.specs.States.{FolderState, IsFolder}
use Rattle.folder_calls.specs.declared.entry.Entry.{Entry}
use Rattle.folder_calls.specs.Histories.{IsLegal, state_after}
use Rattle.folder_calls.specs.Shared.{now}
use Rattle.index_sender.specs.Overlay.{KeepsUp}
use Rattle.index_sender.specs.Pages.{page_of, up_to}
use Rattle.index_sender.proofs.KeepingUp.{IsPage, LocalGoesOn, next-keeps}
use Rattle.index_sender.proofs.UpTo.{kept-page}
use Rattle.index_sender.proofs.laws.pages_keep_up.Goals as goal

pub returns-clause-none : goal.returns-clause-none
returns-clause-none c = λ start v. record {
  all = λ n r here above below. absurd (omega arith);
  only = λ n r e. absurd (none-some r e);
  from = omega arith;
  given = inl refl;
  owed = λ e. refl;
}

pub returns-clause-next : goal.returns-clause-next
returns-clause-next c = λ start pages old new page before after keeps go legal gives.
    let rest : List Entry = go.seen.0 in
    let folder : IsFolder (now after) = c.views_are_of_folders.ensures.folder after legal in
    let whole : IsLegal legal.passes before.opening (before.seen ++ rest) =
    subst (IsLegal legal.passes before.opening) (sym go.seen.1) (subst (λ s. IsLegal legal.passes s after.seen) (sym go.opening) legal.legal) in
    let divided = (c.histories_may_be_divided.ensures.legal legal.passes before.opening before.seen rest).0 whole in
    let at : state_after (now before) rest ≡ now after =
    sym (c.histories_may_be_divided.ensures.leads before.opening before.seen rest) ∙ ap (state_after before.opening) go.seen.1 ∙ ap (λ s. state_after s after.seen) go.opening in
    let goes : LocalGoesOn (now before) (now after) =
    subst (LocalGoesOn (now before)) at (λ n. c.local_records_go_on.ensures.records legal.passes (now before) rest n divided.1) in
    let later : (now before).last ≤ (now after).last =
    subst (λ (s : FolderState). (now before).last ≤ s.last) at (c.local_records_go_on.ensures.last (now before) rest) in
    let read : IsPage (now after) old.cursor gives.records = record {
      rise = (c.local_records_come_in_pages.ensures.rise (now after) old.cursor 1000 gives.records folder gives.read).0;
      only = λ r i. c.local_records_come_in_pages.ensures.only (now after) old.cursor 1000 gives.records r folder gives.read i;
      all = λ n r here above. elim (c.local_records_come_in_pages.ensures.all (now after) old.cursor 1000 gives.records n r folder gives.read here above) [
        | inl i ↦ inl i
        | inr x ↦ inr (x.0, x.1, x.2, x.3, x.4)
      ];
    } in
    subst (λ p. KeepsUp start (pages ++ p ∷ []) new after) (sym gives.page_is)
    (subst (λ w. KeepsUp start (pages ++ page_of old.owes_index gives.records ∷ []) w after) (sym gives.new_is)
    (next-keeps start pages old before after keeps folder later goes gives.records read))

pub returns-clause-kept : goal.returns-clause-kept
returns-clause-kept c = λ start kept pages old new page is_waiting before after keeps go legal gives.
    let rest : List Entry = go.seen.0 in
    let folder : IsFolder (now after) = c.views_are_of_folders.ensures.folder after legal in
    let whole : IsLegal legal.passes before.opening (before.seen ++ rest) =
    subst (IsLegal legal.passes before.opening) (sym go.seen.1) (subst (λ s. IsLegal legal.passes s after.seen) (sym go.opening) legal.legal) in
    let divided = (c.histories_may_be_divided.ensures.legal legal.passes before.opening before.seen rest).0 whole in
    let at : state_after (now before) rest ≡ now after =
    sym (c.histories_may_be_divided.ensures.leads before.opening before.seen rest) ∙ ap (state_after before.opening) go.seen.1 ∙ ap (λ s. state_after s after.seen) go.opening in
    let goes : LocalGoesOn (now before) (now after) =
    subst (LocalGoesOn (now before)) at (λ n. c.local_records_go_on.ensures.records legal.passes (now before) rest n divided.1) in
    let later : (now before).last ≤ (now after).last =
    subst (λ (s : FolderState). (now before).last ≤ s.last) at (c.local_records_go_on.ensures.last (now before) rest) in
    let read : IsPage (now after) old.cursor gives.records = record {
      rise = (c.local_records_come_in_pages.ensures.rise (now after) old.cursor 1000 gives.records folder gives.read).0;
      only = λ r i. c.local_records_come_in_pages.ensures.only (now after) old.cursor 1000 gives.records r folder gives.read i;
      all = λ n r here above. elim (c.local_records_come_in_pages.ensures.all (now after) old.cursor 1000 gives.records n r folder gives.read here above) [
        | inl i ↦ inl i
        | inr x ↦ inr (x.0, x.1, x.2, x.3, x.4)
      ];
    } in
    subst (λ p. KeepsUp start (pages ++ p ∷ []) new after) (sym gives.page_is)
    (subst (λ w. KeepsUp start (pages ++ page_of old.owes_index (up_to kept gives.records) ∷ []) w after) (sym gives.new_is)
    (next-keeps start pages old before after keeps folder later goes (up_to kept gives.records) (kept-page (now after) old.cursor kept gives.records read)))
