-- Of a recorded's pulls: a commit that was entered is its ticket, a pull that is given up at once leaves the folder as it
-- was, and one that begins is entered with room for the entry that ends it.
use Rattle.std.proofs.Common.{◌≡◌, ℕ, ◌+◌, ◌≤◌, true, false, List, [], ◌∷◌, ◌++◌, length, refl, sym, ap, subst, ◌∙◌, arith}
use Rattle.std.specs.Prelude.{if◌then◌else◌, ⊤, nat_le, Option, None, Some, is_some, option_map, unwrap_or, Result, Ok, Err, IfOk, IfSome}
use Rattle.std.specs.FinMap.{get, len}
use Rattle.std.proofs.lemmas.Bool.{true≢false}
use Rattle.sync_record.specs.Records.{Name}
use Rattle.folder_core.specs.Calls.{Changes, enter_answer}
use Rattle.folder_core.specs.States.{FolderState, Pull}
use Rattle.folder_core.specs.Steps.{close_pull, is_accepted, next_ticket, step, with_pull}
use Rattle.folder_core.specs.declared.answer.Answer.{Answer}
use Rattle.folder_core.specs.declared.answer.Answer.TheVariants.{Begun, Entered, HistoryFull}
use Rattle.folder_core.specs.declared.change.Change.{Change}
use Rattle.folder_core.specs.declared.change.Change.TheVariants.{BeginPull, EnterCommit, GiveUp}
use Rattle.folder_core.specs.declared.pull.EnterFault.{EnterFault}
use Rattle.folder_core.specs.declared.pull_stage.PullStage.TheVariants.{Pulling}
use Rattle.folder_core.specs.declared.pull_info.PullInfo.{PullInfo}
use Rattle.folder_core.proofs.ChangeAnswers.{ticket-found}
use Rattle.folder_core.proofs.ChangeCases.{step-cases}
use Rattle.folder_core.proofs.ChangeKept.{step-keeps}
use Rattle.folder_core.proofs.AnnouncedMaps.{insert_here, remove_inserted}
use Rattle.folder_core.proofs.ListTests.{none_of}
use Rattle.folder_core.proofs.Orders.{bytes_total, exact_names}
use Rattle.folder_calls.specs.declared.entry.Entry.{Entry}
use Rattle.folder_calls.specs.declared.history.History.{History}
use Rattle.folder_calls.specs.RecordedFolders.{Appends, IsRecordedFolder, end, appended}
use Rattle.folder_calls.proofs.RecordedSteps.{declined-after, enters-after, found-room, full-after, recorded-after}

-- ---- entered

abbrev ticket_of : Change → Option PullInfo
ticket_of (EnterCommit t) = Some t
ticket_of _ = None

abbrev IsTicket : Option PullInfo → Answer → Type 0
IsTicket o (Entered t) = unwrap_or o t ≡ t
IsTicket o _ = ⊤

unentered : (o : Option PullInfo) (a : Answer) → is_accepted a ≡ false → IsTicket o a
unentered o (Entered t) unmade = absurd (true≢false unmade)
unentered o _ unmade = tt

its-ticket : (s : FolderState) (c : Change) → IsTicket (ticket_of c) (step s c).0
its-ticket s = step-cases s (λ c d. IsTicket (ticket_of c) d.0) (record {
  tested = λ c a unmade. unentered (ticket_of c) a unmade;
  found = λ n expected f moment _. tt;
  gone = λ n expected moment r _ _. tt;
  full = λ d rs. tt;
  more = λ d rs. tt;
  forgotten = λ d. tt;
  begun = λ n b _ _. tt;
  entered = λ t p found _. refl;
  finished = λ t assembled p found. tt;
  given_up = λ t p found. tt;
  aborted = λ t p found. tt;
})

-- two copies of the ticket are copies of the commit
pub commit-copies : (s after : FolderState) (t one two : PullInfo) (r : Result PullInfo EnterFault) → one ≡ t → two ≡ t
    → Changes s (EnterCommit t) (enter_answer r) after → IfOk r (λ commit. (commit ≡ one) × (commit ≡ two))
commit-copies s after t one two (Ok commit) e f made =
    let same : commit ≡ t = sym (subst (λ (d : Answer × FolderState). IsTicket (Some t) d.0) made (its-ticket s (EnterCommit t))) in
    (same ∙ sym e, same ∙ sym f)
commit-copies s after t one two (Err refused) e f made = tt

-- ---- begun and given up

closed-again : (s : FolderState) (t : PullInfo) → is_some (get s.pulls t.name) ≡ false → (step (with_pull s t Pulling) (GiveUp t)).1 ≡ s
closed-again s t free =
    let p : Pull = record { number = t.number; base = option_map (λ r. r.version) t.base; target = t.target; stage = Pulling } in
    ap (λ o. (close_pull (with_pull s t Pulling) t o).1) (ticket-found (with_pull s t Pulling) t Pulling p (record { open_pull = insert_here bytes_total exact_names s.pulls t.name p; at_stage = refl; number = refl; target = refl }))
    ∙ ap (λ m. record s { pulls = m }) (remove_inserted bytes_total exact_names s.pulls t.name p (none_of (get s.pulls t.name) free))

abbrev Undone : FolderState → FolderState → Answer → Type 0
Undone s begun (Begun t) = (step begun (GiveUp t)).1 ≡ s
Undone s begun _ = ⊤

untouched : (s : FolderState) (a : Answer) → is_accepted a ≡ false → Undone s s a
untouched s (Begun t) unmade = absurd (true≢false unmade)
untouched s _ unmade = tt

undone : (s : FolderState) (c : Change) → Undone s (step s c).1 (step s c).0
undone s = step-cases s (λ c d. Undone s d.1 d.0) (record {
  tested = λ c a unmade. untouched s a unmade;
  found = λ n expected f moment _. tt;
  gone = λ n expected moment r _ _. tt;
  full = λ d rs. tt;
  more = λ d rs. tt;
  forgotten = λ d. tt;
  begun = λ n b _ fails. closed-again s (next_ticket s n b.1) fails.0;
  entered = λ t p found _. tt;
  finished = λ t assembled p found. tt;
  given_up = λ t p found. tt;
  aborted = λ t p found. tt;
})

pub given-back : (s begun after : FolderState) (n : Name) (t : PullInfo) (a : Answer) → step s (BeginPull n) ≡ (Begun t, begun) → step begun (GiveUp t) ≡ (a, after) → after ≡ s
given-back s begun after n t a began gave =
    sym (ap (λ (d : Answer × FolderState). d.1) gave) ∙ subst (λ (d : Answer × FolderState). Undone s d.1 d.0) began (undone s (BeginPull n))

-- ---- begun

module _ (h now : History) (view_is : h ≡ now) (pulls capacity : ℕ) (s : FolderState) (j : IsRecordedFolder s pulls capacity h) (pass : ℕ) (given : (1 ≤ pass) × (pass ≤ now.passes))
    (n : Name) where
  pub full-begin : (es : List Entry) → es ≡ h.entries → is_accepted (step s (BeginPull n)).0 ≡ true → nat_le (length now.entries + len (end now).pulls + 2) now.limit ≡ false → Appends now pass (BeginPull n) (Some HistoryFull) (record h { entries = es })
  full-begin es kept accepted full =
      subst (Appends now pass (BeginPull n) (Some HistoryFull)) (sym (ap (λ es. record h { entries = es }) kept ∙ view_is))
      (full-after h now view_is pulls capacity s j pass given (BeginPull n) tt (step s (BeginPull n)).0 (step s (BeginPull n)).1 refl accepted full refl)

  module _ (capacity' : ℕ) (kept : capacity ≤ capacity')
      (admitted : is_accepted (step s (BeginPull n)).0 ≡ true → (nat_le (length now.entries + len (end now).pulls + 2) now.limit ≡ true) × (length h.entries + pulls + 2 ≤ capacity'))
      (t : FolderState) (a : Answer) (made : step s (BeginPull n) ≡ (a, t)) where
    let-in : is_accepted a ≡ true → (nat_le (length now.entries + len (end now).pulls + 2) now.limit ≡ true) × (length h.entries + pulls + 2 ≤ capacity')
    let-in accepted = admitted (ap (λ (d : Answer × FolderState). is_accepted d.0) made ∙ accepted)

    pub begin-after : (copy : Option PullInfo) → IfSome copy (λ ticket. a ≡ Begun ticket) → (copy ≡ None → is_accepted a ≡ false)
        → (es : List Entry) → es ≡ appended h.entries pass (BeginPull n) (option_map Begun copy)
        → IsRecordedFolder t (pulls + (if is_some copy then 1 else 0)) capacity' (record h { entries = es }) × Appends now pass (BeginPull n) (Some a) (record h { entries = es })
    begin-after None same other es pushed =
        let tested = other refl in
        let unmade : t ≡ s = ap (λ (d : Answer × FolderState). d.1) (sym made) ∙ step-keeps s (BeginPull n) (ap (λ (d : Answer × FolderState). is_accepted d.0) made ∙ tested) in (
          subst (λ es. IsRecordedFolder t (pulls + 0) capacity' (record h { entries = es })) (sym pushed)
              (record { history = j.history; state_is = unmade ∙ j.state_is; pulls_is = let r = j.pulls_is in omega arith; room = let r = j.room in omega arith }),
          subst (Appends now pass (BeginPull n) (Some a)) (sym (ap (λ es. record h { entries = es }) pushed ∙ view_is))
              (declined-after h now view_is pulls capacity s j pass given (BeginPull n) tt a t made tested),
        )
    begin-after (Some ticket) same other es pushed =
        let accepted : is_accepted a ≡ true = ap is_accepted same in
        let found = let-in accepted in
        let more = found.1 in
        let room = found-room h now view_is pulls capacity s j pass given (BeginPull n) tt a t made accepted found.0 refl in
        let entered : es ≡ h.entries ++ (record { pass = pass; change = BeginPull n; answer = a }) ∷ [] =
        pushed ∙ ap (λ b. h.entries ++ (record { pass = pass; change = BeginPull n; answer = b }) ∷ []) (sym same) in (
          recorded-after h now view_is pulls capacity s j pass given (BeginPull n) tt a t made accepted room es entered (pulls + 1) capacity' (omega arith) (omega arith),
          enters-after h now view_is pulls capacity s j pass given (BeginPull n) tt a t made accepted room es entered,
        )
