-- Histories grow by one entry at a time, and keep room for the entries of the open pulls.
use Rattle.std.proofs.Common.{◌≡◌, ◌≢◌, ℕ, ◌+◌, ◌-◌, ◌<◌, ◌≤◌, Bool, true, false, List, [], ◌∷◌, ◌++◌, length, refl, sym, ap, subst, ◌∙◌, arith, ◌⊎◌, inl, inr, append-nil}
use Rattle.std.specs.Prelude.{cond, ◌==◌, nat_lt, nat_le, Some, is_some}
use Rattle.std.specs.FinMap.{get, remove, len, len-remove, empty_of_len, get-empty}
use Rattle.std.proofs.lemmas.Bool.{cond-true, cond-false, and_from, and_left, and_right, true≢false, lt-ltb, ltb-true, leb-true, leb-false, eq-eqb, ne_eqb, false_from_ne_true}
use Rattle.std.proofs.lemmas.List.Elements.{filter-append}
use Rattle.std.proofs.lemmas.Option.{none-some}
use Rattle.sync_record.specs.Devices.{bytes_cmp}
use Rattle.sync_record.specs.Records.{Name}
use Rattle.sync_version.proofs.Lists.{zero_or_above}
use Rattle.folder_core.specs.declared.pull_stage.PullStage.TheVariants.{Pulling, Committing}
use Rattle.folder_core.specs.States.{FolderState, IsFolder, Pull}
use Rattle.folder_core.specs.declared.answer.Answer.{Answer}
use Rattle.folder_core.specs.declared.answer.Answer.TheVariants.{HistoryFull}
use Rattle.folder_core.specs.declared.change.Change.{Change}
use Rattle.folder_core.specs.Runs.{ends_pull}
use Rattle.folder_core.specs.Steps.{MayChange, is_accepted, step}
use Rattle.folder_calls.specs.declared.entry.Entry.{Entry}
use Rattle.folder_calls.specs.Histories.{MayFollow, IsLegal, after, state_after, is_over, shared_answer, own_entries}
use Rattle.folder_core.proofs.Orders.{bytes_total}
use Rattle.folder_core.proofs.PullOpen.{pull_of-is}
use Rattle.folder_core.proofs.ChangeCases.{step-cases}
use Rattle.folder_core.proofs.ChangeFolders.{step-folder}
use Rattle.folder_core.proofs.ChangeRest.{step-me}

-- ---- one more entry

pub legal-front : (passes : ℕ) (s : FolderState) (es : List Entry) (e : Entry) → IsLegal passes s (es ++ e ∷ []) → IsLegal passes s es × MayFollow passes (state_after s es) e
legal-front passes s [] e legal = (tt, legal.0)
legal-front passes s (f ∷ es) e legal = let r = legal-front passes (after s f) es e legal.1 in ((legal.0, r.0), r.1)

pub legal-push : (passes : ℕ) (s : FolderState) (es : List Entry) (e : Entry) → IsLegal passes s es → MayFollow passes (state_after s es) e → IsLegal passes s (es ++ e ∷ [])
legal-push passes s [] e legal may = (may, tt)
legal-push passes s (f ∷ es) e legal may = (legal.0, legal-push passes (after s f) es e legal.1 may)

pub state-push : (s : FolderState) (es : List Entry) (e : Entry) → state_after s (es ++ e ∷ []) ≡ (step (state_after s es) e.change).1
state-push s [] e = refl
state-push s (f ∷ es) e = state-push (after s f) es e

-- a folder keeps its device, and so what its callers have to ensure
pub state-me : (s : FolderState) (es : List Entry) → (state_after s es).me ≡ s.me
state-me s [] = refl
state-me s (e ∷ es) = state-me (after s e) es ∙ step-me s e.change

pub allowed-after : (s : FolderState) (es : List Entry) (c : Change) → MayChange s.me c → MayChange (state_after s es).me c
allowed-after s es c = subst (λ d. MayChange d c) (sym (state-me s es))

pub allowed-before : (s : FolderState) (es : List Entry) (c : Change) → MayChange (state_after s es).me c → MayChange s.me c
allowed-before s es c = subst (λ d. MayChange d c) (state-me s es)

-- along a legal history
pub legal-folder : (passes : ℕ) (s : FolderState) (es : List Entry) → IsFolder s → IsLegal passes s es → IsFolder (state_after s es)
legal-folder passes s [] old legal = old
legal-folder passes s (e ∷ es) old legal = legal-folder passes (after s e) es (step-folder s e.change old legal.0.allowed) legal.1

-- ---- the entries of a pass

pub own-push : (pass : ℕ) (es : List Entry) (e : Entry) → e.pass ≡ pass → own_entries pass (es ++ e ∷ []) ≡ own_entries pass es ++ e ∷ []
own-push pass es e own =
    filter-append (λ x. x.pass == pass) es (e ∷ []) ∙ ap (λ b. own_entries pass es ++ cond b (e ∷ []) []) (eq-eqb e.pass pass own)

pub own-skip : (pass : ℕ) (es : List Entry) (e : Entry) → e.pass ≢ pass → own_entries pass (es ++ e ∷ []) ≡ own_entries pass es
own-skip pass es e other =
    filter-append (λ x. x.pass == pass) es (e ∷ []) ∙ ap (λ b. own_entries pass es ++ cond b (e ∷ []) []) (ne_eqb e.pass pass other) ∙ append-nil (own_entries pass es)

-- ---- when a history has room

module _ (limit : ℕ) (s : FolderState) (es : List Entry) (c : Change) where
  abbrev made : Answer × FolderState
  made = step (state_after s es) c

  abbrev needs : ℕ
  needs = length es + 1 + len made.1.pulls

  pub shared-full : is_accepted made.0 ≡ true → limit < needs → shared_answer limit s es c ≡ HistoryFull
  shared-full accepted over =
      ap (λ (d : Answer × FolderState). d.0)
      (cond-true (is_over limit (length es) made) (HistoryFull, state_after s es) made (and_from _ _ accepted (lt-ltb limit needs over)))

  fits : (is_accepted made.0 ≡ false) ⊎ (needs ≤ limit) → is_over limit (length es) made ≡ false
  fits (inl tested) = and_left _ _ tested
  fits (inr room) = and_right _ _ (false_from_ne_true (nat_lt limit needs) (λ t. let lt = ltb-true limit needs t in omega arith))

  pub shared-same : (is_accepted made.0 ≡ false) ⊎ (needs ≤ limit) → shared_answer limit s es c ≡ made.0
  shared-same room =
      ap (λ (d : Answer × FolderState). d.0) (cond-false (is_over limit (length es) made) (HistoryFull, state_after s es) made (fits room))

  -- an accepted change leaves room for the entries of the open pulls
  pub shared-room : is_accepted (shared_answer limit s es c) ≡ true → needs ≤ limit
  shared-room accepted =
      elim (nat_le needs limit) as (λ b. nat_le needs limit ≡ b → needs ≤ limit) [
        | true ↦ λ t. leb-true needs limit t
        | false ↦ λ t. absurd (over (leb-false needs limit t) (is_accepted made.0) refl)
      ] refl
    where
      over : limit < needs → (b : Bool) → is_accepted made.0 ≡ b → ⊥
      over lt true e = true≢false (sym accepted ∙ ap is_accepted (shared-full e lt))
      over lt false e = true≢false (sym accepted ∙ ap is_accepted (shared-same (inl e)) ∙ e)

-- ---- what ends an open pull finds its room

pub pulls-fewer : (s : FolderState) (n : Name) (p : Pull) → get s.pulls n ≡ Some p → len (remove s.pulls n) + 1 ≤ len s.pulls
pulls-fewer s n p g = by (zero_or_above (len s.pulls))
  where
    less : len (remove s.pulls n) ≡ len s.pulls - 1
    less = len-remove bytes_total s.pulls n ∙ ap (λ o. cond (is_some o) (len s.pulls - 1) (len s.pulls)) g

    by : (len s.pulls ≡ 0) ⊎ (0 < len s.pulls) → len (remove s.pulls n) + 1 ≤ len s.pulls
    by (inl none) = absurd (none-some p (sym (ap (λ m. get m n) (empty_of_len s.pulls none) ∙ get-empty bytes_cmp n) ∙ g))
    by (inr some) = let e = less in omega arith

abbrev Frees : FolderState → Change → Answer × FolderState → Type 0
Frees s c d = ends_pull c ≡ true → (is_accepted d.0 ≡ false) ⊎ (len d.1.pulls + 1 ≤ len s.pulls)

frees : (s : FolderState) (c : Change) → Frees s c (step s c)
frees s = step-cases s (Frees s) (record {
  tested = λ _ a unmade _. inl unmade;
  found = λ n expected f moment _ e. absurd (true≢false (sym e));
  gone = λ n expected moment r _ _ e. absurd (true≢false (sym e));
  full = λ d rs e. absurd (true≢false (sym e));
  more = λ d rs e. absurd (true≢false (sym e));
  forgotten = λ d e. absurd (true≢false (sym e));
  begun = λ n b _ _ e. absurd (true≢false (sym e));
  entered = λ t p _ _ e. absurd (true≢false (sym e));
  finished = λ t assembled p found _. inr (pulls-fewer s t.name p (pull_of-is s t Committing p found).0);
  given_up = λ t p found _. inr (pulls-fewer s t.name p (pull_of-is s t Pulling p found).0);
  aborted = λ t p found _. inr (pulls-fewer s t.name p (pull_of-is s t Committing p found).0);
})

module _ (limit : ℕ) (s : FolderState) (es : List Entry) (kept : length es + len (state_after s es).pulls ≤ limit) where
  fits-end : (c : Change) → (is_accepted (step (state_after s es) c).0 ≡ false) ⊎ (len (step (state_after s es) c).1.pulls + 1 ≤ len (state_after s es).pulls)
      → shared_answer limit s es c ≡ (step (state_after s es) c).0
  fits-end c (inl tested) = shared-same limit s es c (inl tested)
  fits-end c (inr fewer) = shared-same limit s es c (inr (omega arith))

  pub end-fits : (c : Change) → ends_pull c ≡ true → shared_answer limit s es c ≡ (step (state_after s es) c).0
  end-fits c ends = fits-end c (frees (state_after s es) c ends)
