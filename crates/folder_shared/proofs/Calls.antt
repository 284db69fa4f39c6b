-- What a call learns between taking the folder and putting it back, as it was or with one entry more.
use Rattle.std.proofs.Common.{◌≡◌, ◌⊎◌, ℕ, ◌≤◌, Bool, true, false, cond, List, [], ◌∷◌, ◌++◌, length, take, sym, refl, ap, ◌∙◌, subst, inl, inr, arith}
use Rattle.std.specs.Prelude.{IfErr, IfOk, MatchBool, Some, Result, Ok, Err}
use Rattle.std.proofs.lemmas.List.{take_all}
use mathlib.Core.List.{IsPrefix}
use mathlib.Core.Option.{some}
use lib.ListN.{get_elem?}
use Rattle.crossbeam_channel.specs.Claims.{IsSeatAt}
use Rattle.crossbeam_channel.specs.Ends.{sends_on}
use Rattle.crossbeam_channel.specs.Fifo.{Pushes}
use Rattle.folder_core.specs.States.{FolderState}
use Rattle.folder_core.specs.Steps.{is_accepted}
use Rattle.folder_core.specs.declared.answer.Answer.{Answer}
use Rattle.folder_core.specs.declared.change.Change.{Change}
use Rattle.folder_calls.specs.declared.at.At.{At}
use Rattle.folder_calls.specs.declared.entry.Entry.{Entry}
use Rattle.folder_calls.specs.declared.history.History.{History}
use Rattle.folder_calls.specs.Calls.{answered_at}
use Rattle.folder_calls.specs.Histories.{own_entries, shared_answer}
use Rattle.folder_calls.specs.RecordedFolders.{Appends, IsHistory, answered, with_entry}
use Rattle.folder_calls.specs.Shared.{Declines, IsAnswered, IsLegalView, Makes, Sees, ChangesAt, CallerView, seeing}
use Rattle.folder_shared.specs.declared.known.PassHistory.{PassHistory}
use Rattle.folder_shared.specs.declared.known.Known.{Known}
use Rattle.folder_shared.specs.declared.shared.Pass.{Pass}
use Rattle.folder_shared.specs.declared.shared.LockedFolder.{LockedFolder}
use Rattle.folder_shared.specs.Rule.{pass_history, first_history, IsFit, IsSame, RuleHolds, MayPut, PutBack, seen_all}
use Rattle.folder_shared.specs.Passes.{IsGivenBack, IsGrown, IsHeld, IsPassOf, IsPutBack, MayPutBack, history_of, knows, limit_of, opened_of, opening_of, seen_of, view_of}
use Rattle.folder_shared.proofs.Histories.{length_starts, starts_trans, take_same, take_starts}
use Rattle.folder_shared.proofs.Puts.{puts}

-- a caller of a pass that was given out knows a legal history, if it has seen all of it
pub all-legal : (x : History) (opening : FolderState) (limit n : ℕ) → IsHistory x → x.opening ≡ opening → x.limit ≡ limit → 1 ≤ n → n ≤ x.passes
    → IsLegalView (record { opening = opening; limit = limit; pass = n; seen = x.entries })
all-legal x opening limit n history same_opening same_limit first last =
    subst (λ s. IsLegalView (record { opening = s; limit = limit; pass = n; seen = x.entries })) same_opening
    (subst (λ m. IsLegalView (record { opening = x.opening; limit = m; pass = n; seen = x.entries })) same_limit (record {
      opening = history.opening;
      no_pull = history.no_pull;
      passes = x.passes;
      given = (first, last);
      legal = history.legal;
      room = history.room;
    }))

-- ---- the history that is put back: the one that was taken, or that with one entry more of the pass

grown-same : (x y : History) (n : ℕ) → IsGrown x n y → IsSame y x
grown-same x y n (inl is) = (ap (λ (m : History). m.opening) is, ap (λ (m : History). m.limit) is)
grown-same x y n (inr g) = (ap (λ (m : History). m.opening) g.2, ap (λ (m : History). m.limit) g.2)

grown-passes : (x y : History) (n : ℕ) → IsGrown x n y → y.passes ≡ x.passes
grown-passes x y n (inl is) = ap (λ (m : History). m.passes) is
grown-passes x y n (inr g) = ap (λ (m : History). m.passes) g.2

grown-put : (v : Known) (x y : History) (n : ℕ) (log : List Entry) → v.memo ≡ x → v.histories ≡ pass_history n log ∷ [] → IsGrown x n y → MayPut v y
grown-put v x y n log memo one grown = let same = grown-same x y n grown in
    ((same.0 ∙ ap (λ (m : History). m.opening) (sym memo), same.1 ∙ ap (λ (m : History). m.limit) (sym memo)), grown-passes x y n grown ∙ ap (λ (m : History). m.passes) (sym memo), entries grown)
  where
    entries : IsGrown x n y → (y.entries ≡ v.memo.entries) ⊎ ((e : Entry) × (y.entries ≡ v.memo.entries ++ e ∷ []) × (i : ℕ) × (c : PassHistory) × (get_elem? v.histories i ≡ some c) × (e.pass ≡ c.pass))
    entries (inl is) = inl (ap (λ (m : History). m.entries) (is ∙ sym memo))
    entries (inr g) = inr (g.0, ap (λ (m : History). m.entries) g.2 ∙ ap (λ (m : History). m.entries ++ g.0 ∷ []) (sym memo), 0, pass_history n log, ap (λ (cs : List PassHistory). get_elem? cs 0) one, g.1)

-- with an answer or without one it may be put back so
pub may-grown : {X E : Type 0} (x y : History) (n : ℕ) (answer : Result X E) → MayPutBack x n answer y → IsGrown x n y
may-grown x y n (Ok value) grown = grown
may-grown x y n (Err fault) same = inl same

pub may-same : {X E : Type 0} (x y : History) (n : ℕ) (answer : Result X E) (fault : E) → answer ≡ Err fault → MayPutBack x n answer y → y ≡ x
may-same x y n answer fault is may = subst (λ a. MayPutBack x n a y) is may

pub may-unchanged : {X E : Type 0} (x : History) (n : ℕ) (answer : Result X E) → MayPutBack x n answer x
may-unchanged x n (Ok value) = inl refl
may-unchanged x n (Err fault) = refl

-- a change that is answered leaves such a history
pub answered-grown : (x y : History) (n : ℕ) (change : Change) (answer : Answer) → Appends x n change (Some answer) y → IsGrown x n y
answered-grown x y n change answer entered = by (is_accepted answer) entered.1
  where
    by : (b : Bool) → (y ≡ cond b (with_entry x n change answer) x) → IsGrown x n y
    by true is = inr (record { pass = n; change = change; answer = answer }, refl, is)
    by false is = inl is

-- what the change returns to its caller
there : (old now : CallerView) (x y : History) (change : Change) (answer : Answer) → Appends x old.pass change (Some answer) y → IsSame x (record { opening = old.opening; limit = old.limit; entries = []; passes = 0 })
    → Sees old (seeing old x.entries) → now ≡ seeing old y.entries → IsLegalView now → IsAnswered old change (record { at = length y.entries; value = answer }) now
there old now x y change answer entered same sees is legal = record {
  point = ap (λ (v : CallerView). length v.seen) (sym is);
  legal = legal;
  answered = by (is_accepted answer) refl entered.1;
}
  where
    at : answer ≡ shared_answer old.limit old.opening x.entries change
    at = entered.0 ∙ (λ i. shared_answer (same.1 i) (same.0 i) x.entries change)

    by : (b : Bool) → is_accepted answer ≡ b → (y ≡ cond b (with_entry x old.pass change answer) x) → MatchBool b (Makes old now change answer) (Declines old now change answer)
    by true accepted grown = record {
      point = seeing old x.entries;
      sees = sees;
      answer_is = at;
      appended = is ∙ ap (λ (h : History). seeing old h.entries) grown;
    }
    by false tested grown = let same : now ≡ seeing old x.entries = is ∙ ap (λ (h : History). seeing old h.entries) grown in record {
      sees = subst (Sees old) (sym same) sees;
      answer_is = at ∙ ap (λ (v : CallerView). shared_answer old.limit old.opening v.seen change) (sym same);
    }

module _ {C : Type 0} (s : LockedFolder C) (before held : Pass C) (x : History) (of : IsPassOf s before) (h : IsHeld s before held x) where
  memo-held : (knows held).memo ≡ x
  memo-held = ap (λ (v : Known). v.memo) h.taken.after

  one-held : (knows held).histories ≡ pass_history before.number (history_of before) ∷ []
  one-held = ap (λ (v : Known). v.histories) h.taken.after ∙ of.histories

  fit : IsFit x (pass_history before.number (history_of before))
  fit = h.taken.fit 0 _ (ap (λ (cs : List PassHistory). get_elem? cs 0) of.histories)

  pub same-held : IsSame x (opened_of s)
  same-held = (h.taken.same.0 ∙ of.same.0, h.taken.same.1 ∙ of.same.1)

  -- the pass is one of those that were given out
  pub given-held : (1 ≤ held.number) × (held.number ≤ x.passes)
  given-held = let f = fit.2 in let g = fit.3 in let n = h.number in (omega arith, omega arith)

  -- the point at which the folder was taken
  pub sees-held : Sees (view_of s before) (seeing (view_of s before) x.entries)
  sees-held = record {
    longer = starts_trans x.entries (history_of before) (seen_of before) fit.0 (take_starts before.seen (history_of before));
    own = fit.1 ∙ sym of.own;
    same = refl;
  }

  module _ (y : History) (grown : IsGrown x before.number y) where
    same-grown : IsSame y (opened_of s)
    same-grown = let g = grown-same x y before.number grown in (g.0 ∙ same-held.0, g.1 ∙ same-held.1)

    pub rule-back : (n port : ℕ) → Pushes RuleHolds n port (knows held) y (PutBack (knows held) y)
    rule-back n port = puts n port (knows held) y (ap (λ (v : Known). v.state) h.taken.after) (grown-put (knows held) x y before.number (history_of before) memo-held one-held grown)

    module _ (now : Pass C) (number : now.number ≡ held.number) (seat : IsSeatAt (sends_on s.sender) now.token) (put : PutBack (knows held) y (knows now)) where
      histories-now : (knows now).histories ≡ pass_history before.number y.entries ∷ []
      histories-now = ap (λ (v : Known). v.histories) put ∙ ap (seen_all y.entries) one-held

      first_history-now : history_of now ≡ y.entries
      first_history-now = ap first_history histories-now

      is-number : now.number ≡ before.number
      is-number = number ∙ h.number

      same-now : IsSame (knows now).memo (opened_of s)
      same-now = (ap (λ (v : Known). v.memo.opening) put ∙ same-grown.0, ap (λ (v : Known). v.memo.limit) put ∙ same-grown.1)

      own-pass_history : (knows now).histories ≡ pass_history now.number (history_of now) ∷ []
      own-pass_history = histories-now ∙ (λ i. pass_history (sym is-number i) (sym first_history-now i) ∷ [])

      -- with an answer the pass has seen all
      module _ (history : IsHistory y) (seen : now.seen ≡ length y.entries) where
        all : seen_of now ≡ y.entries
        all = ap (λ n. take n (history_of now)) seen ∙ ap (take (length y.entries)) first_history-now ∙ take_all (length y.entries) y.entries (omega arith)

        answered-view : view_of s now ≡ seeing (view_of s before) y.entries
        answered-view = (λ i. record { opening = opening_of s; limit = limit_of s; pass = is-number i; seen = all i })

        answered-legal : IsLegalView (seeing (view_of s before) y.entries)
        answered-legal = all-legal y (opening_of s) (limit_of s) before.number history same-grown.0 same-grown.1 (let f = fit.2 in omega arith) (let g = fit.3 in let p = grown-passes x y before.number grown in omega arith)

        now-legal : IsLegalView (view_of s now)
        now-legal = subst IsLegalView (sym answered-view) answered-legal

        pub answered-pass : IsPassOf s now
        answered-pass = record {
          seat = seat;
          idle = ap (λ (v : Known). v.state) put;
          same = same-now;
          histories = own-pass_history;
          counted = let c = ap length first_history-now in omega arith;
          own = ap (own_entries now.number) (all ∙ sym first_history-now);
          legal = ∣ now-legal ∣₁;
        }

        pub back-ok : {X E : Type 0} (answer : Result X E) (value : X) → answer ≡ Ok value → IsPutBack s before y answer (Ok (record { at = now.seen; value = value })) now
        back-ok answer value is = subst (λ a. IsPutBack s before y a (Ok (record { at = now.seen; value = value })) now) (sym is)
            (ap (λ n. Ok (record { at = n; value = value })) seen, answered-view, now-legal)

    -- out of memory it has seen no more
    module _ (same : y ≡ x) (now : Pass C) (number : now.number ≡ held.number) (seat : IsSeatAt (sends_on s.sender) now.token) (put : PutBack (knows held) y (knows now)) (seen : now.seen ≡ held.seen) where
      still : history_of now ≡ x.entries
      still = first_history-now now number seat put ∙ ap (λ (m : History). m.entries) same

      kept-seen : seen_of now ≡ seen_of before
      kept-seen = ap (λ n. take n (history_of now)) (seen ∙ h.seen) ∙ ap (take before.seen) still ∙ take_same before.seen x.entries (history_of before) fit.0 of.counted

      kept-view : view_of s now ≡ view_of s before
      kept-view = (λ i. record { opening = opening_of s; limit = limit_of s; pass = is-number now number seat put i; seen = kept-seen i })

      pub kept-pass : IsPassOf s now
      kept-pass = record {
        seat = seat;
        idle = ap (λ (v : Known). v.state) put;
        same = same-now now number seat put;
        histories = own-pass_history now number seat put;
        counted = let c = ap length still in let l = length_starts x.entries (history_of before) fit.0 in let b = of.counted in let n = seen ∙ h.seen in omega arith;
        own = subst (λ n. own_entries n (seen_of now) ≡ own_entries n (history_of now)) (sym (is-number now number seat put))
            (ap (own_entries before.number) kept-seen ∙ of.own ∙ sym fit.1 ∙ ap (own_entries before.number) (sym still));
        legal = subst (λ v. ∥ IsLegalView v ∥₁) (sym kept-view) of.legal;
      }

      pub back-err : {X E : Type 0} (answer : Result X E) (fault : E) → answer ≡ Err fault → IsPutBack s before y answer (Err fault) now
      back-err answer fault is = subst (λ a. IsPutBack s before y a (Err fault) now) (sym is) (refl, kept-view)

  -- the value or the fault is the answer's
  pub put-value : {X E : Type 0} (y : History) (now : Pass C) (answer : Result X E) (result : Result (At X) E) → IsPutBack s before y answer result now → IfOk result (λ reply. answer ≡ Ok reply.value)
  put-value {X = X} {E = E} y now (Ok value) result back = let a : Result X E = Ok value in subst (λ r. IfOk r (λ reply. a ≡ Ok reply.value)) (sym back.0) refl
  put-value {X = X} {E = E} y now (Err fault) result back = let a : Result X E = Err fault in subst (λ r. IfOk r (λ reply. a ≡ Ok reply.value)) (sym back.0) tt

  pub put-fault : {X E : Type 0} (y : History) (now : Pass C) (answer : Result X E) (result : Result (At X) E) → IsPutBack s before y answer result now → IfErr result (λ fault. answer ≡ Err fault)
  put-fault {X = X} {E = E} y now (Ok value) result back = let a : Result X E = Ok value in subst (λ r. IfErr r (λ fault. a ≡ Err fault)) (sym back.0) tt
  put-fault {X = X} {E = E} y now (Err fault) result back = let a : Result X E = Err fault in subst (λ r. IfErr r (λ fault. a ≡ Err fault)) (sym back.0) refl

  -- ---- what a read returns, whose caller puts the folder back as it was

  pub read-given : {X E : Type 0} (now : Pass C) (answer : Result X E) (result : Result (At X) E) → IsPutBack s before x answer result now → IsGivenBack s before x answer result now
  read-given now (Ok value) result back = (
    back.0,
    back.1,
    record {
      longer = subst (IsPrefix (seen_of before)) (ap (λ (v : CallerView). v.seen) (sym back.1)) sees-held.longer;
      own = subst (λ es. own_entries before.number es ≡ own_entries before.number (seen_of before)) (ap (λ (v : CallerView). v.seen) (sym back.1)) sees-held.own;
      same = back.1 ∙ ap (λ (v : CallerView). seeing (view_of s before) v.seen) (sym back.1);
    },
    back.2,
  )
  read-given now (Err fault) result back = back

  -- ---- what a change returns

  pub change-grown : {X E : Type 0} (y : History) (f : X → Answer) (change : Change) (answer : Result X E) → Appends x held.number change (answered f answer) y → MayPutBack x before.number answer y
  change-grown y f change (Ok value) entered = answered-grown x y before.number change (f value) (subst (λ n. Appends x n change (Some (f value)) y) h.number entered)
  change-grown y f change (Err fault) entered = entered

  pub change-replies : {X E : Type 0} (y : History) (now : Pass C) (f : X → Answer) (change : Change) (answer : Result X E) (result : Result (At X) E) → Appends x held.number change (answered f answer) y
      → IsPutBack s before y answer result now → ChangesAt (view_of s before) change (answered_at f result) (view_of s now)
  change-replies y now f change (Ok value) result entered back = subst (λ r. ChangesAt (view_of s before) change (answered_at f r) (view_of s now)) (sym back.0)
      (there (view_of s before) (view_of s now) x y change (f value) (subst (λ n. Appends x n change (Some (f value)) y) h.number entered) same-held sees-held back.1 back.2)
  change-replies y now f change (Err fault) result entered back = subst (λ r. ChangesAt (view_of s before) change (answered_at f r) (view_of s now)) (sym back.0) back.1
