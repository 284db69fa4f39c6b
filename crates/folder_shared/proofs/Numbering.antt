-- A pass is numbered: what may be put then, and that the pass is one of the folder, which has seen nothing.
use Rattle.std.proofs.Common.{◌≡◌, ℕ, ◌+◌, ◌<◌, cond, List, [], ◌∷◌, take, sym, refl, ap, ◌∙◌, subst, inl, arith}
use Rattle.std.specs.FinMap.{len}
use Rattle.std.proofs.lemmas.Bool.{ne_eqb}
use Rattle.crossbeam_channel.specs.Claims.{Pass as Token, view, IsSeatAt}
use Rattle.crossbeam_channel.specs.Ends.{sends_on}
use Rattle.crossbeam_channel.specs.Fifo.{Pushes}
use Rattle.folder_core.specs.States.{FolderState, IsFolder}
use Rattle.folder_calls.specs.declared.entry.Entry.{Entry}
use Rattle.folder_calls.specs.declared.history.History.{History}
use Rattle.folder_calls.specs.Histories.{IsLegal, after, own_entries}
use Rattle.folder_calls.specs.RecordedFolders.{IsHistory}
use Rattle.folder_calls.specs.Shared.{IsLegalView}
use Rattle.folder_calls.proofs.HistoryShared.{view-opened}
use Rattle.folder_shared.specs.declared.known.Known.{Known}
use Rattle.folder_shared.specs.declared.known.TokenState.TheVariants.{Holding}
use Rattle.folder_shared.specs.declared.shared.Pass.{Pass}
use Rattle.folder_shared.specs.declared.shared.SharedFolder.{SharedFolder}
use Rattle.folder_shared.specs.Blank.{IsBlankOf}
use Rattle.folder_shared.specs.Rule.{blank_of, pass_history, first_history, IsSame, RuleHolds, MayNumber, Numbered, PutBack, Taken}
use Rattle.folder_shared.specs.Passes.{IsPassOf, history_of, knows, limit_of, opened_of, opening_of, seen_of}
use Rattle.folder_shared.proofs.Puts.{numbers, puts}

-- a pass that was not given out has no entries
pub none-given : (passes n : ℕ) (s : FolderState) (es : List Entry) → passes < n → IsLegal passes s es → own_entries n es ≡ []
none-given passes n s [] more legal = refl
none-given passes n s (e ∷ es) more legal =
    ap (λ b. cond b (e ∷ own_entries n es) (own_entries n es)) (ne_eqb e.pass n (λ same. let g = legal.0.given.1 in absurd (omega arith)))
    ∙ none-given passes n (after s e) es more legal.1

module _ {C : Type 0} (s : SharedFolder C) (blank : Token History Known) (m : IsBlankOf s.blank.table.shared.key blank) (v : Known) (v_is : v ≡ blank_of (view blank)) (x : History) (w : Known) (t : Taken v x w) where
  same-opened : IsSame x (opened_of s.locked)
  same-opened = (
    t.same.0 ∙ ap (λ (u : Known). u.memo.opening) v_is ∙ m.same.0 ∙ ap (λ (h : History). h.opening) s.same,
    t.same.1 ∙ ap (λ (u : Known). u.memo.limit) v_is ∙ m.same.1 ∙ ap (λ (h : History). h.limit) s.same,
  )

  holds : w.state ≡ Holding
  holds = ap (λ (u : Known). u.state) t.after

  memo : w.memo ≡ x
  memo = ap (λ (u : Known). u.memo) t.after

  module _ (y : History) where
    -- with one more pass
    module _ (number : ℕ) (next : number ≡ x.passes + 1) (is : y ≡ record x { passes = number }) where
      may : MayNumber w y
      may = (
        ap (λ (u : Known). u.histories) t.after ∙ ap (λ (u : Known). u.histories) v_is,
        (ap (λ (h : History). h.opening) is ∙ ap (λ (h : History). h.opening) (sym memo), ap (λ (h : History). h.limit) is ∙ ap (λ (h : History). h.limit) (sym memo)),
        ap (λ (h : History). h.passes) is ∙ next ∙ ap (λ (h : History). h.passes + 1) (sym memo),
        ap (λ (h : History). h.entries) is ∙ ap (λ (h : History). h.entries) (sym memo),
      )

      pub number-rule : (n port : ℕ) → Pushes RuleHolds n port w y (Numbered w y)
      number-rule n port = numbers n port w y holds may

      pub numbered-pass : IsHistory x → (p : Pass C) → p.number ≡ number → p.seen ≡ 0 → IsSeatAt (sends_on s.locked.sender) p.token → Numbered w y (knows p) → IsPassOf s.locked p
      numbered-pass history p number_is none seat put =
          let c : history_of p ≡ x.entries = ap (λ (u : Known). first_history u.histories) put ∙ ap (λ (h : History). h.entries) is in
          let nothing : seen_of p ≡ [] = ap (λ n. take n (history_of p)) none in
          record {
            seat = seat;
            idle = ap (λ (u : Known). u.state) put;
            same = (ap (λ (u : Known). u.memo.opening) put ∙ ap (λ (h : History). h.opening) is ∙ same-opened.0, ap (λ (u : Known). u.memo.limit) put ∙ ap (λ (h : History). h.limit) is ∙ same-opened.1);
            histories = ap (λ (u : Known). u.histories) put ∙ (λ i. pass_history ((ap (λ (h : History). h.passes) is ∙ sym number_is) i) (ap (λ (h : History). h.entries) is i) ∷ []) ∙ (λ i. pass_history p.number (sym c i) ∷ []);
            counted = omega arith;
            own = ap (own_entries p.number) nothing ∙ sym (none-given x.passes p.number x.opening x.entries (omega arith) history.legal) ∙ ap (own_entries p.number) (sym c);
            legal = ∣ subst (λ es. IsLegalView (record { opening = opening_of s.locked; limit = limit_of s.locked; pass = p.number; seen = es })) (sym nothing)
                (view-opened (opening_of s.locked) (limit_of s.locked) p.number (subst IsFolder same-opened.0 history.opening) (subst (λ (f : FolderState). len f.pulls ≡ 0) same-opened.0 history.no_pull) (omega arith)) ∣₁;
          }

    -- as it was
    module _ (is : y ≡ x) where
      pub back-rule : (n port : ℕ) → Pushes RuleHolds n port w y (PutBack w y)
      back-rule n port = puts n port w y holds
          ((ap (λ (h : History). h.opening) (is ∙ sym memo), ap (λ (h : History). h.limit) (is ∙ sym memo)), ap (λ (h : History). h.passes) (is ∙ sym memo), inl (ap (λ (h : History). h.entries) (is ∙ sym memo)))
