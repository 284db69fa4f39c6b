-- What a folder with one caller returns to it, with and without a change of another caller just before.
use Rattle.std.proofs.Common.{◌≡◌, ℕ, ◌+◌, Bool, true, false, List, [], ◌∷◌, ◌++◌, length, refl, sym, ap, subst, ◌∙◌, arith, inl}
use Rattle.std.specs.Prelude.{cond, drop, take, Some, IfOk, IfSome, Result, Ok, Err}
use Rattle.std.proofs.lemmas.List.{length-append, take-append-drop, take_all}
use mathlib.Core.List.{IsPrefix}
use Rattle.folder_core.specs.declared.answer.Answer.{Answer}
use Rattle.folder_core.specs.declared.change.Change.{Change}
use Rattle.folder_core.specs.Reads.{Query, Reply, Reads}
use Rattle.folder_core.specs.States.{FolderState}
use Rattle.folder_core.specs.Steps.{MayChange, is_accepted}
use Rattle.folder_calls.specs.declared.lone_state.LoneState.{LoneState}
use Rattle.folder_calls.specs.declared.at.At.{At}
use Rattle.folder_calls.specs.declared.entry.Entry.{Entry}
use Rattle.folder_calls.specs.declared.history.History.{History}
use Rattle.folder_calls.specs.Calls.{answered_at}
use Rattle.folder_calls.specs.LoneStates.{ChangesAfterPlan, PlanGoesOn, IsLone, IsOwnChange, IsOwnRead, WithPoint, ReadsAfterPlan, change_of, seen_by}
use Rattle.folder_calls.specs.Histories.{IsLegal, own_entries}
use Rattle.folder_calls.specs.RecordedFolders.{Appends, IsHistory, answered, end, with_entry}
use Rattle.folder_calls.specs.Shared.{Closes, IsLegalView, ReadsAt, ChangesAt, CallerView, own_entry, seeing}
use Rattle.folder_calls.proofs.HistoryFronts.{view-front}
use Rattle.folder_calls.proofs.HistoryMeetings.{may-close}
use Rattle.folder_calls.proofs.HistoryShared.{declined-there, made-there, read-there}

-- ---- what a change of some pass makes of a history

-- the history is as before, or has one entry more
pub on-entering : (P : History → Type 0) (old new : History) (pass : ℕ) (change : Change) (answer : Answer) → Appends old pass change (Some answer) new
    → (is_accepted answer ≡ false → P old) → (is_accepted answer ≡ true → P (with_entry old pass change answer)) → P new
on-entering P old new pass change answer entered tested made = subst P (sym entered.1) (by (is_accepted answer) refl)
  where
    by : (b : Bool) → is_accepted answer ≡ b → P (cond b (with_entry old pass change answer) old)
    by true t = made t
    by false t = tested t

-- what a caller knows that has seen so many of the entries
abbrev view_of : History → ℕ → CallerView
view_of h seen = record { opening = h.opening; limit = h.limit; pass = 1; seen = take seen h.entries }

module _ (a : LoneState) (alone : IsLone a) where
  abbrev es : List Entry
  es = a.history.entries

  seen-front : IsPrefix (take a.seen es) es
  seen-front = (drop a.seen es, take-append-drop a.seen es)

  all-legal : IsLegalView (seeing (seen_by a) es)
  all-legal = record {
    opening = alone.history.opening;
    no_pull = alone.history.no_pull;
    passes = a.history.passes;
    given = (let p = alone.passes in omega arith, let p = alone.passes in omega arith);
    legal = alone.history.legal;
    room = alone.history.room;
  }

  all-seen : seeing (seen_by a) es ≡ view_of a.history (length es)
  all-seen = ap (seeing (seen_by a)) (sym (take_all (length es) es (omega arith)))

  -- what the caller has seen is legal
  pub seen-legal : IsLegalView (seen_by a)
  seen-legal = view-front (seen_by a) (take a.seen es) (drop a.seen es) (subst (λ xs. IsLegalView (seeing (seen_by a) xs)) (sym (take-append-drop a.seen es)) all-legal)

  -- a change of its own
  module _ (h : History) (change : Change) (answer : Answer) (entered : Appends a.history 1 change (Some answer) h) where
    pub own-lone : IsHistory h → IsLone (record a { history = h; seen = length h.entries })
    own-lone history = record {
      history = history;
      passes = on-entering (λ h. h.passes ≡ 2) a.history h 1 change answer entered (λ _. alone.passes) (λ _. alone.passes);
      seen = omega arith;
      own = ap (own_entries 1) (sym (take_all (length h.entries) h.entries (omega arith)));
      may = on-entering (λ h. IfSome a.plan (λ p. MayChange h.opening.me (change_of p.change))) a.history h 1 change answer entered (λ _. alone.may) (λ _. alone.may);
      whole = λ none. (refl, (alone.whole none).1);
    }

    pub own-replies : MayChange a.history.opening.me change → ChangesAt (seen_by a) change (Some (record { at = length h.entries; value = answer })) (view_of h (length h.entries))
    own-replies may = on-entering (λ h. ChangesAt (seen_by a) change (Some (record { at = length h.entries; value = answer })) (view_of h (length h.entries))) a.history h 1 change answer entered
        (λ tested. subst (ChangesAt (seen_by a) change (Some (record { at = length es; value = answer }))) all-seen
        (declined-there (seen_by a) es seen-front alone.own all-legal change answer entered.0 tested))
        (λ accepted. subst (λ n. ChangesAt (seen_by a) change (Some (record { at = n; value = answer })) (view_of (with_entry a.history 1 change answer) n)) (sym (length-append es (own_entry (seen_by a) change answer ∷ [])))
        (subst (λ xs. ChangesAt (seen_by a) change (Some (record { at = length es + 1; value = answer })) (seeing (seen_by a) xs)) (sym (take_all (length es + 1) (es ++ own_entry (seen_by a) change answer ∷ []) (let l = length-append es (own_entry (seen_by a) change answer ∷ []) in omega arith)))
        (made-there (seen_by a) es seen-front alone.own all-legal change answer may entered.0 accepted)))

  pub read-replies : (q : Query) (r : Reply q) → Reads (end a.history) q r → ReadsAt (seen_by a) q (Some (record { at = length es; value = r })) (view_of a.history (length es))
  read-replies q r reads = subst (ReadsAt (seen_by a) q (Some (record { at = length es; value = r }))) all-seen (read-there (seen_by a) es seen-front alone.own all-legal q r reads)

-- ---- whole calls, from what was planned before them

module _ (old point given : LoneState) (view_is : point ≡ given) (alone : IsLone point) (before : PlanGoesOn old.plan old given) (unchanged : seen_by given ≡ seen_by old) where
  went : PlanGoesOn old.plan old point
  went = subst (PlanGoesOn old.plan old) (sym view_is) before

  same : seen_by point ≡ seen_by old
  same = ap seen_by view_is ∙ unchanged

  may-here : (change : Change) → MayChange old.history.opening.me change → MayChange point.history.opening.me change
  may-here change may = subst (λ (v : CallerView). MayChange v.opening.me change) (sym same) may

  -- a change that may be out of memory
  module _ {X E : Type 0} (f : X → Answer) (change : Change) (h : History) (answer : Result X E) (entered : Appends point.history 1 change (answered f answer) h)
      (result : Result (At X) E) (seen : ℕ) (is : WithPoint (length h.entries) answer result point.seen seen) where
    abbrev new : LoneState
    new = record { history = h; seen = seen; plan = point.plan; planned = point.planned }

    pub change-lone : IsHistory h → IsLone new
    change-lone history = by answer entered is
      where
        by : (answer : Result X E) → Appends point.history 1 change (answered f answer) h → WithPoint (length h.entries) answer result point.seen seen → IsLone new
        by (Ok x) entered is = subst (λ n. IsLone (record point { history = h; seen = n })) (sym is.1) (own-lone point alone h change (f x) entered history)
        by (Err e) entered is = subst IsLone (ap (λ h. record point { history = h }) (sym entered) ∙ ap (λ n. record point { history = h; seen = n }) (sym is.1)) alone

    pub change-replies : MayChange old.history.opening.me change → ChangesAt (seen_by old) change (answered_at f result) (seen_by new)
    change-replies may = subst (λ v. ChangesAt v change (answered_at f result) (seen_by new)) same (by answer entered is)
      where
        by : (answer : Result X E) → Appends point.history 1 change (answered f answer) h → WithPoint (length h.entries) answer result point.seen seen → ChangesAt (seen_by point) change (answered_at f result) (seen_by new)
        by (Ok x) entered is = subst (λ r. ChangesAt (seen_by point) change (answered_at f r) (seen_by new)) (sym is.0)
            (subst (λ n. ChangesAt (seen_by point) change (Some (record { at = length h.entries; value = f x })) (view_of h n)) (sym is.1) (own-replies point alone h change (f x) entered (may-here change may)))
        by (Err e) entered is = subst (λ r. ChangesAt (seen_by point) change (answered_at f r) (seen_by new)) (sym is.0)
            (ap (λ (h : History). view_of h seen) entered ∙ ap (view_of point.history) is.1)

    pub change-done : ChangesAfterPlan old change (answered_at f result) new
    change-done = record { point = point; goes_on = went; asked = by answer entered is }
      where
        by : (answer : Result X E) → Appends point.history 1 change (answered f answer) h → WithPoint (length h.entries) answer result point.seen seen → IsOwnChange point change (answered_at f result) new
        by (Ok x) entered is = subst (λ r. IsOwnChange point change (answered_at f r) new) (sym is.0) (entered, refl, ap (λ n. record point { history = h; seen = n }) is.1)
        by (Err e) entered is = subst (λ r. IsOwnChange point change (answered_at f r) new) (sym is.0)
            (ap (λ h. record point { history = h; seen = seen }) entered ∙ ap (λ n. record point { seen = n }) is.1)

  -- a change that is never out of memory
  module _ (change : Change) (h : History) (answer : Answer) (entered : Appends point.history 1 change (Some answer) h) (n : ℕ) (many : n ≡ length h.entries) where
    abbrev ended : LoneState
    ended = record { history = h; seen = n; plan = point.plan; planned = point.planned }

    pub end-replies : MayChange old.history.opening.me change → ChangesAt (seen_by old) change (Some (record { at = n; value = answer })) (seen_by ended)
    end-replies may = subst (λ n. ChangesAt (seen_by old) change (Some (record { at = n; value = answer })) (view_of h n)) (sym many)
        (subst (λ v. ChangesAt v change (Some (record { at = length h.entries; value = answer })) (view_of h (length h.entries))) same (own-replies point alone h change answer entered (may-here change may)))

    pub end-done : ChangesAfterPlan old change (Some (record { at = n; value = answer })) ended
    end-done = record { point = point; goes_on = went; asked = (entered, many, refl) }

  -- a read that may be out of memory
  module _ {s : FolderState} (state_is : s ≡ end point.history) {X E : Type 0} (q : Query) (f : X → Reply q) (answer : Result X E) (given_reads : IfOk answer (λ x. Reads s q (f x)))
      (result : Result (At X) E) (seen : ℕ) (is : WithPoint (length point.history.entries) answer result point.seen seen) where
    abbrev looked : LoneState
    looked = record { history = point.history; seen = seen; plan = point.plan; planned = point.planned }

    abbrev HasRead : Result X E → Type 0
    HasRead answer = IfOk answer (λ x. Reads (end point.history) q (f x))

    reads : HasRead answer
    reads = subst (λ s. IfOk answer (λ x. Reads s q (f x))) state_is given_reads

    pub look-replies : ReadsAt (seen_by old) q (answered_at f result) (seen_by looked)
    look-replies = subst (λ v. ReadsAt v q (answered_at f result) (seen_by looked)) same (by answer reads is)
      where
        by : (answer : Result X E) → HasRead answer → WithPoint (length point.history.entries) answer result point.seen seen → ReadsAt (seen_by point) q (answered_at f result) (seen_by looked)
        by (Ok x) read is = subst (λ r. ReadsAt (seen_by point) q (answered_at f r) (seen_by looked)) (sym is.0)
            (subst (λ n. ReadsAt (seen_by point) q (Some (record { at = length point.history.entries; value = f x })) (view_of point.history n)) (sym is.1) (read-replies point alone q (f x) read))
        by (Err e) read is = subst (λ r. ReadsAt (seen_by point) q (answered_at f r) (seen_by looked)) (sym is.0) (ap (view_of point.history) is.1)

    pub look-done : ReadsAfterPlan old q (answered_at f result) looked
    look-done = record { point = point; goes_on = went; looked_up = by answer reads is }
      where
        by : (answer : Result X E) → HasRead answer → WithPoint (length point.history.entries) answer result point.seen seen → IsOwnRead point q (answered_at f result) looked
        by (Ok x) read is = subst (λ r. IsOwnRead point q (answered_at f r) looked) (sym is.0) (read, refl, ap (λ n. record point { seen = n }) is.1)
        by (Err e) read is = subst (λ r. IsOwnRead point q (answered_at f r) looked) (sym is.0) (ap (λ n. record point { seen = n }) is.1)

  -- a read that is never out of memory
  module _ {s : FolderState} (state_is : s ≡ end point.history) (q : Query) (r : Reply q) (given_reads : Reads s q r) (n : ℕ) (many : n ≡ length point.history.entries) where
    abbrev counted : LoneState
    counted = record { history = point.history; seen = n; plan = point.plan; planned = point.planned }

    known-reads : Reads (end point.history) q r
    known-reads = subst (λ s. Reads s q r) state_is given_reads

    pub count-replies : ReadsAt (seen_by old) q (Some (record { at = n; value = r })) (seen_by counted)
    count-replies = subst (λ n. ReadsAt (seen_by old) q (Some (record { at = n; value = r })) (view_of point.history n)) (sym many)
        (subst (λ v. ReadsAt v q (Some (record { at = length point.history.entries; value = r })) (view_of point.history (length point.history.entries))) same (read-replies point alone q r known-reads))

    pub count-done : ReadsAfterPlan old q (Some (record { at = n; value = r })) counted
    count-done = record { point = point; goes_on = went; looked_up = (known-reads, many, refl) }

-- ---- closing

pub lone-closes : (a : LoneState) → IsLone a → Closes a.history.opening a.history.limit 2 (seen_by a ∷ []) (end a.history)
lone-closes a alone =
    may-close 2 (seen_by a) a.history.entries (seen-front a alone) alone.own
    (subst (λ n. IsLegal n a.history.opening a.history.entries) alone.passes alone.history.legal) alone.history.room (inl (omega arith))
