-- A recorded's entries: each change of a pass is answered with the shared answer, and the open pulls are counted.
use Rattle.std.proofs.Common.{◌≡◌, ℕ, ◌+◌, ◌-◌, ◌^◌, ◌<◌, ◌≤◌, Bool, true, false, List, [], ◌∷◌, ◌++◌, length, refl, sym, ap, subst, ◌∙◌, arith, inl, inr}
use Rattle.std.specs.Prelude.{cond, Option, Some, None, is_some, nat_le}
use Rattle.std.specs.FinMap.{get, insert, remove, len, len-insert}
use Rattle.std.proofs.lemmas.Bool.{true≢false, leb-true, leb-false, cond-true, cond-false}
use Rattle.std.proofs.lemmas.List.{length-append}
use Rattle.sync_record.specs.Records.{Name}
use Rattle.folder_core.specs.declared.pull_stage.PullStage.TheVariants.{Pulling, Committing}
use Rattle.folder_core.specs.declared.answer.Answer.{Answer}
use Rattle.folder_core.specs.declared.answer.Answer.TheVariants.{HistoryFull}
use Rattle.folder_core.specs.declared.change.Change.{Change}
use Rattle.folder_core.specs.declared.change.Change.TheVariants.{BeginPull, Finish, GiveUp, Abort}
use Rattle.folder_core.specs.Calls.{Changes}
use Rattle.folder_core.specs.States.{FolderState, Pull}
use Rattle.folder_core.specs.Steps.{MayChange, committed_record, is_accepted, next_ticket, step, with_commit, with_local, with_pull, without_pull}
use Rattle.folder_core.proofs.Orders.{bytes_total}
use Rattle.folder_core.proofs.PullOpen.{pull_of-is}
use Rattle.folder_core.proofs.ChangeCases.{step-cases}
use Rattle.folder_core.proofs.ChangeKept.{step-keeps}
use Rattle.folder_calls.specs.declared.entry.Entry.{Entry}
use Rattle.folder_calls.specs.declared.history.History.{History}
use Rattle.folder_calls.specs.RecordedFolders.{Appends, IsHistory, IsRecordedFolder, end, appended, with_entry}
use Rattle.folder_calls.proofs.HistoryEntries.{allowed-after, legal-push, pulls-fewer, shared-full, shared-same, state-push}
use Rattle.folder_calls.proofs.HistoryFronts.{legal-more, removed-less}

-- how many pulls an accepted change opens, and how many it closes
abbrev pub opens : Change → ℕ
opens (BeginPull n) = 1
opens _ = 0

abbrev pub closes : Change → ℕ
closes (Finish t assembled) = 1
closes (GiveUp t) = 1
closes (Abort t) = 1
closes _ = 0

put-new : (s : FolderState) (n : Name) (p : Pull) → is_some (get s.pulls n) ≡ false → len (insert s.pulls n p) ≡ len s.pulls + 1
put-new s n p none = len-insert bytes_total s.pulls n p ∙ ap (λ b. cond b (len s.pulls) (len s.pulls + 1)) none

put-again : (s : FolderState) (n : Name) (p q : Pull) → get s.pulls n ≡ Some q → len (insert s.pulls n p) ≡ len s.pulls
put-again s n p q there = len-insert bytes_total s.pulls n p ∙ ap (λ o. cond (is_some o) (len s.pulls) (len s.pulls + 1)) there

removed : (s : FolderState) (n : Name) (p : Pull) → get s.pulls n ≡ Some p → len (remove s.pulls n) + 1 ≡ len s.pulls
removed s n p there = let less = pulls-fewer s n p there in let more = removed-less s n in omega arith

pub step-open : (s : FolderState) (c : Change) → is_accepted (step s c).0 ≡ true → len (step s c).1.pulls + closes c ≡ len s.pulls + opens c
step-open s = step-cases s (λ c d. is_accepted d.0 ≡ true → len d.1.pulls + closes c ≡ len s.pulls + opens c) (record {
  tested = λ c a unmade made. absurd (true≢false (sym made ∙ unmade));
  found = λ n expected f moment _ _. refl;
  gone = λ n expected moment r _ _ _. refl;
  full = λ d rs _. refl;
  more = λ d rs _. refl;
  forgotten = λ d _. refl;
  begun = λ n b _ fails _. let e : len (with_pull s (next_ticket s n b.1) Pulling).pulls ≡ len s.pulls + 1 = put-new s n _ fails.0 in omega arith;
  entered = λ t p found _ _. let e : len (with_commit s t.name p).pulls ≡ len s.pulls = put-again s t.name _ p (pull_of-is s t Pulling p found).0 in omega arith;
  finished = λ t assembled p found _. let e : len (without_pull (with_local s (committed_record p.base p.target)) t.name).pulls + 1 ≡ len s.pulls = removed s t.name p (pull_of-is s t Committing p found).0 in omega arith;
  given_up = λ t p found _. let e : len (without_pull s t.name).pulls + 1 ≡ len s.pulls = removed s t.name p (pull_of-is s t Pulling p found).0 in omega arith;
  aborted = λ t p found _. let e : len (without_pull s t.name).pulls + 1 ≡ len s.pulls = removed s t.name p (pull_of-is s t Committing p found).0 in omega arith;
})

-- one more pass is given out
pub more-passes : (h : History) → IsHistory h → h.passes < 2 ^ 32 → IsHistory (record h { passes = h.passes + 1 })
more-passes h history below = record {
  opening = history.opening;
  no_pull = history.no_pull;
  legal = legal-more h.passes (h.passes + 1) h.opening h.entries (omega arith) history.legal;
  room = history.room;
  few = omega arith;
}

pub more-passes-recorded : (h : History) (pulls capacity : ℕ) (s : FolderState) → IsRecordedFolder s pulls capacity h → h.passes < 2 ^ 32 → IsRecordedFolder s pulls capacity (record h { passes = h.passes + 1 })
more-passes-recorded h pulls capacity s j below = record { history = more-passes h j.history below; state_is = j.state_is; pulls_is = j.pulls_is; room = j.room }

module _ (h : History) (pass : ℕ) (c : Change) (history : IsHistory h) (given : (1 ≤ pass) × (pass ≤ h.passes)) (may : MayChange h.opening.me c) where
  abbrev made : Answer × FolderState
  made = step (end h) c

  abbrev grown : History
  grown = with_entry h pass c made.0

  -- an accepted change, for whose entry there is room, is entered
  module _ (accepted : is_accepted made.0 ≡ true) (room : length h.entries + 1 + len made.1.pulls ≤ h.limit) where
    pub entered-history : IsHistory grown
    entered-history = record {
      opening = history.opening;
      no_pull = history.no_pull;
      few = history.few;
      legal = legal-push h.passes h.opening h.entries _ history.legal (record { given = given; allowed = allowed-after h.opening h.entries c may; answered = refl; accepted = accepted });
      room =
          let l = length-append h.entries ((record { pass = pass; change = c; answer = made.0 }) ∷ []) in
          let s = ap (λ (s : FolderState). len s.pulls) (state-push h.opening h.entries (record { pass = pass; change = c; answer = made.0 })) in
          omega arith;
    }

    pub entered-end : end grown ≡ made.1
    entered-end = state-push h.opening h.entries (record { pass = pass; change = c; answer = made.0 })

    pub entered-enters : Appends h pass c (Some made.0) grown
    entered-enters = (sym (shared-same h.limit h.opening h.entries c (inr room)), sym (cond-true (is_accepted made.0) grown h accepted))

  -- any other answer leaves it
  pub declined-enters : is_accepted made.0 ≡ false → Appends h pass c (Some made.0) h
  declined-enters tested = (sym (shared-same h.limit h.opening h.entries c (inl tested)), sym (cond-false (is_accepted made.0) grown h tested))

  -- and where there is no room it is refused
  pub full-enters : is_accepted made.0 ≡ true → h.limit < length h.entries + 1 + len made.1.pulls → Appends h pass c (Some HistoryFull) h
  full-enters accepted over = (sym (shared-full h.limit h.opening h.entries c accepted over), refl)

-- the same of a recorded's own values: of what the core answered, of the entries with the new one, and of the room that was made
module _ (h : History) (pulls capacity : ℕ) (s : FolderState) (j : IsRecordedFolder s pulls capacity h) (pass : ℕ) (given : (1 ≤ pass) × (pass ≤ h.passes))
    (c : Change) (may : MayChange h.opening.me c) (a : Answer) (t : FolderState) (made : step s c ≡ (a, t)) where
  there : step (end h) c ≡ (a, t)
  there = ap (λ s. step s c) (sym j.state_is) ∙ made

  answer-there : (step (end h) c).0 ≡ a
  answer-there = ap (λ (d : Answer × FolderState). d.0) there

  state-there : (step (end h) c).1 ≡ t
  state-there = ap (λ (d : Answer × FolderState). d.1) there

  pulls-there : len (step (end h) c).1.pulls ≡ len t.pulls
  pulls-there = ap (λ (s : FolderState). len s.pulls) state-there

  module _ (accepted : is_accepted a ≡ true) where
    accepted-there : is_accepted (step (end h) c).0 ≡ true
    accepted-there = ap is_accepted answer-there ∙ accepted

    -- room was found for the entry, and for that of the pull it opens
    pub room-found : nat_le (length h.entries + len (end h).pulls + (1 + opens c)) h.limit ≡ true → closes c ≡ 0 → length h.entries + 1 + len t.pulls ≤ h.limit
    room-found found none =
        let r = leb-true (length h.entries + len (end h).pulls + (1 + opens c)) h.limit found in
        let o = step-open (end h) c accepted-there in
        let p = pulls-there in
        omega arith

    pub room-full : nat_le (length h.entries + len (end h).pulls + (1 + opens c)) h.limit ≡ false → closes c ≡ 0 → Appends h pass c (Some HistoryFull) h
    room-full full none =
        let r = leb-false (length h.entries + len (end h).pulls + (1 + opens c)) h.limit full in
        let o = step-open (end h) c accepted-there in
        full-enters h pass c j.history given may accepted-there (omega arith)

    -- or it was kept since the pull began
    pub room-kept : closes c ≡ 1 → opens c ≡ 0 → length h.entries + 1 + len t.pulls ≤ h.limit
    room-kept one none =
        let r = j.history.room in
        let o = step-open (end h) c accepted-there in
        let p = pulls-there in
        omega arith

    module _ (room : length h.entries + 1 + len t.pulls ≤ h.limit) where
      room-there : length h.entries + 1 + len (step (end h) c).1.pulls ≤ h.limit
      room-there = let p = pulls-there in omega arith

      abbrev pub with_answer : History
      with_answer = with_entry h pass c a

      grown-is : with_entry h pass c (step (end h) c).0 ≡ with_answer
      grown-is = ap (λ b. with_entry h pass c b) answer-there

      pub answer-history : IsHistory with_answer
      answer-history = subst IsHistory grown-is (entered-history h pass c j.history given may accepted-there room-there)

      pub answer-enters : Appends h pass c (Some a) with_answer
      answer-enters = subst (λ b. Appends h pass c (Some b) (with_entry h pass c b)) answer-there (entered-enters h pass c j.history given may accepted-there room-there)

      pub answer-recorded : (pulls' capacity' : ℕ) → pulls' + closes c ≡ pulls + opens c → length h.entries + 1 + pulls' ≤ capacity' → IsRecordedFolder t pulls' capacity' with_answer
      answer-recorded pulls' capacity' counted made_room = record {
        history = answer-history;
        state_is = sym state-there ∙ sym (entered-end h pass c j.history given may accepted-there room-there) ∙ ap end grown-is;
        pulls_is =
            let o = step-open (end h) c accepted-there in
            let p = pulls-there in
            let q = j.pulls_is in
            let e = ap (λ (s : FolderState). len s.pulls) (sym (entered-end h pass c j.history given may accepted-there room-there) ∙ ap end grown-is) in
            omega arith;
        room = let l = length-append h.entries ((record { pass = pass; change = c; answer = a }) ∷ []) in omega arith;
      }

  module _ (tested : is_accepted a ≡ false) where
    tested-there : is_accepted (step (end h) c).0 ≡ false
    tested-there = ap is_accepted answer-there ∙ tested

    pub tested-enters : Appends h pass c (Some a) h
    tested-enters = subst (λ b. Appends h pass c (Some b) h) answer-there (declined-enters h pass c j.history given may tested-there)

    pub tested-state : t ≡ s
    tested-state = ap (λ (d : Answer × FolderState). d.1) (sym made) ∙ step-keeps s c (ap (λ (d : Answer × FolderState). is_accepted d.0) made ∙ tested)

-- the same of the recorded that a call was handed, whose entries are then these
module _ (h now : History) (view_is : h ≡ now) (pulls capacity : ℕ) (s : FolderState) (j : IsRecordedFolder s pulls capacity h) (pass : ℕ) (given : (1 ≤ pass) × (pass ≤ now.passes))
    (c : Change) (may : MayChange now.opening.me c) (a : Answer) (t : FolderState) (made : step s c ≡ (a, t)) where
  given-here : (1 ≤ pass) × (pass ≤ h.passes)
  given-here = subst (λ (h : History). (1 ≤ pass) × (pass ≤ h.passes)) (sym view_is) given

  may-here : MayChange h.opening.me c
  may-here = subst (λ (h : History). MayChange h.opening.me c) (sym view_is) may

  module _ (accepted : is_accepted a ≡ true) (room : length h.entries + 1 + len t.pulls ≤ h.limit) (es : List Entry)
      (pushed : es ≡ h.entries ++ (record { pass = pass; change = c; answer = a }) ∷ []) where
    grown-by : with_entry h pass c a ≡ record h { entries = es }
    grown-by = ap (λ es. record h { entries = es }) (sym pushed)

    pub recorded-after : (pulls' capacity' : ℕ) → pulls' + closes c ≡ pulls + opens c → length h.entries + 1 + pulls' ≤ capacity' → IsRecordedFolder t pulls' capacity' (record h { entries = es })
    recorded-after pulls' capacity' counted made_room =
        subst (IsRecordedFolder t pulls' capacity') grown-by (answer-recorded h pulls capacity s j pass given-here c may-here a t made accepted room pulls' capacity' counted made_room)

    pub history-after : IsHistory (record h { entries = es })
    history-after = subst IsHistory grown-by (answer-history h pulls capacity s j pass given-here c may-here a t made accepted room)

    pub enters-after : Appends now pass c (Some a) (record h { entries = es })
    enters-after =
        subst (λ old. Appends old pass c (Some a) (record h { entries = es })) view_is
        (subst (Appends h pass c (Some a)) grown-by (answer-enters h pulls capacity s j pass given-here c may-here a t made accepted room))

  pub declined-after : is_accepted a ≡ false → Appends now pass c (Some a) now
  declined-after tested = subst (λ old. Appends old pass c (Some a) old) view_is (tested-enters h pulls capacity s j pass given-here c may-here a t made tested)

  pub found-room : is_accepted a ≡ true → nat_le (length now.entries + len (end now).pulls + (1 + opens c)) now.limit ≡ true → closes c ≡ 0 → length h.entries + 1 + len t.pulls ≤ h.limit
  found-room accepted found none = room-found h pulls capacity s j pass given-here c may-here a t made accepted
      (subst (λ (h : History). nat_le (length h.entries + len (end h).pulls + (1 + opens c)) h.limit ≡ true) (sym view_is) found) none

  pub kept-room : is_accepted a ≡ true → closes c ≡ 1 → opens c ≡ 0 → length h.entries + 1 + len t.pulls ≤ h.limit
  kept-room accepted one none = room-kept h pulls capacity s j pass given-here c may-here a t made accepted one none

  -- where no room is left for it and for the entries that end the pulls, it is refused
  pub full-after : is_accepted a ≡ true → nat_le (length now.entries + len (end now).pulls + (1 + opens c)) now.limit ≡ false → closes c ≡ 0 → Appends now pass c (Some HistoryFull) now
  full-after accepted full none = subst (λ old. Appends old pass c (Some HistoryFull) old) view_is
      (room-full h pulls capacity s j pass given-here c may-here a t made accepted
      (subst (λ (h : History). nat_le (length h.entries + len (end h).pulls + (1 + opens c)) h.limit ≡ false) (sym view_is) full) none)

  -- any other answer leaves the recorded
  pub tested-recorded : is_accepted a ≡ false → IsRecordedFolder t pulls capacity h
  tested-recorded tested = subst (λ s. IsRecordedFolder s pulls capacity h) (sym (tested-state h pulls capacity s j pass given-here c may-here a t made tested)) j

  -- what ends a pull: one is open, and the room for its entry was kept
  module _ (accepted : is_accepted a ≡ true) (one : closes c ≡ 1) (none : opens c ≡ 0) where
    pub ended-pulls : 1 ≤ pulls
    ended-pulls =
        let o = step-open (end h) c (accepted-there h pulls capacity s j pass given-here c may-here a t made accepted) in
        let q = j.pulls_is in
        omega arith

    pub ended-room : length h.entries < capacity
    ended-room = let p = ended-pulls in let r = j.room in omega arith

    pub ended-recorded : (es : List Entry) → es ≡ h.entries ++ (record { pass = pass; change = c; answer = a }) ∷ [] → (capacity' : ℕ) → capacity' ≡ capacity → IsRecordedFolder t (pulls - 1) capacity' (record h { entries = es })
    ended-recorded es pushed capacity' same =
        let p = ended-pulls in
        let r = j.room in
        recorded-after accepted (kept-room accepted one none) es pushed (pulls - 1) capacity' (omega arith) (omega arith)

    pub ended-history : (es : List Entry) → es ≡ h.entries ++ (record { pass = pass; change = c; answer = a }) ∷ [] → IsHistory (record h { entries = es })
    ended-history es pushed = history-after accepted (kept-room accepted one none) es pushed

    pub ended-enters : (es : List Entry) → es ≡ h.entries ++ (record { pass = pass; change = c; answer = a }) ∷ [] → Appends now pass c (Some a) (record h { entries = es })
    ended-enters es pushed = enters-after accepted (kept-room accepted one none) es pushed

-- the same of a change that was admitted or refused, whether it is then accepted or not
module _ (h now : History) (view_is : h ≡ now) (pulls capacity : ℕ) (s : FolderState) (j : IsRecordedFolder s pulls capacity h) (pass : ℕ) (given : (1 ≤ pass) × (pass ≤ now.passes))
    (c : Change) (may : MayChange now.opening.me c) (none : closes c ≡ 0) (same : opens c ≡ 0) where
  pub refused-after : (es : List Entry) → es ≡ h.entries → is_accepted (step s c).0 ≡ true → nat_le (length now.entries + len (end now).pulls + 1) now.limit ≡ false → Appends now pass c (Some HistoryFull) (record h { entries = es })
  refused-after es kept accepted full =
      subst (Appends now pass c (Some HistoryFull)) (sym (ap (λ es. record h { entries = es }) kept ∙ view_is))
      (full-after h now view_is pulls capacity s j pass given c may (step s c).0 (step s c).1 refl accepted
      (subst (λ n. nat_le (length now.entries + len (end now).pulls + (1 + n)) now.limit ≡ false) (sym same) full) none)

  module _ (capacity' : ℕ) (kept : capacity ≤ capacity')
      (admitted : is_accepted (step s c).0 ≡ true → (nat_le (length now.entries + len (end now).pulls + 1) now.limit ≡ true) × (length h.entries + pulls + 1 ≤ capacity'))
      (t : FolderState) (es : List Entry) where
    abbrev pub Entered : Option Answer → Type 0
    Entered o = IsRecordedFolder t pulls capacity' (record h { entries = es }) × Appends now pass c o (record h { entries = es })

    unchanged : t ≡ s → es ≡ h.entries → IsRecordedFolder t pulls capacity' (record h { entries = es })
    unchanged e f = subst (λ es. IsRecordedFolder t pulls capacity' (record h { entries = es })) (sym f)
        (record { history = j.history; state_is = e ∙ j.state_is; pulls_is = j.pulls_is; room = let r = j.room in omega arith })

    by : (a : Answer) → step s c ≡ (a, t) → (b : Bool) → is_accepted a ≡ b → es ≡ cond b (h.entries ++ (record { pass = pass; change = c; answer = a }) ∷ []) h.entries → Entered (Some a)
    by a made true accepted pushed =
        let found = admitted (ap (λ (d : Answer × FolderState). is_accepted d.0) made ∙ accepted) in
        let room = found-room h now view_is pulls capacity s j pass given c may a t made accepted
        (subst (λ n. nat_le (length now.entries + len (end now).pulls + (1 + n)) now.limit ≡ true) (sym same) found.0) none in
        let more = found.1 in (
          recorded-after h now view_is pulls capacity s j pass given c may a t made accepted room es pushed pulls capacity' (omega arith) (omega arith),
          enters-after h now view_is pulls capacity s j pass given c may a t made accepted room es pushed,
        )
    by a made false tested pushed = (
      unchanged (ap (λ (d : Answer × FolderState). d.1) (sym made) ∙ step-keeps s c (ap (λ (d : Answer × FolderState). is_accepted d.0) made ∙ tested)) pushed,
      subst (Appends now pass c (Some a)) (sym (ap (λ es. record h { entries = es }) pushed ∙ view_is))
          (declined-after h now view_is pulls capacity s j pass given c may a t made tested),
    )

    pub entered-after : (o : Option Answer) → Changes s c o t → es ≡ appended h.entries pass c o → Entered o
    entered-after None e f = (unchanged e f, ap (λ es. record h { entries = es }) f ∙ view_is)
    entered-after (Some a) made pushed = by a made (is_accepted a) refl pushed

-- the step of a change, in other words
pub made-as : (s : FolderState) {c c' : Change} {d : Answer × FolderState} → c ≡ c' → step s c ≡ d → step s c' ≡ d
made-as s same made = ap (step s) (sym same) ∙ made

-- the entries after one more, in other words
pub pushed-as : (pass : ℕ) {given es es' : List Entry} {c c' : Change} {a a' : Answer}
    → given ≡ es ++ (record { pass = pass; change = c; answer = a }) ∷ [] → es ≡ es' → c ≡ c' → a ≡ a'
    → given ≡ es' ++ (record { pass = pass; change = c'; answer = a' }) ∷ []
pushed-as pass {given} {es} {es'} {c} {c'} {a} {a'} pushed same same_change same_answer =
    pushed ∙ ap (λ xs. xs ++ (record { pass = pass; change = c; answer = a }) ∷ []) same
    ∙ ap (λ c. es' ++ (record { pass = pass; change = c; answer = a }) ∷ []) same_change
    ∙ ap (λ a. es' ++ (record { pass = pass; change = c'; answer = a }) ∷ []) same_answer
