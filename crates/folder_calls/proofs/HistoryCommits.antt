-- In a legal history each finish ends a pull that was begun and entered there.
use Rattle.std.proofs.Common.{◌≡◌, ◌≢◌, ℕ, ◌+◌, Bool, true, false, List, [], ◌∷◌, ◌++◌, refl, sym, ap, subst, ◌∙◌, arith, ◌⊎◌, inl, inr, append_assoc, append-nil}
use Rattle.std.specs.Prelude.{cond, Option, Some, None, option_map, is_some, count_by, bytes_eq, fold, ◌==◌}
use Rattle.std.specs.FinMap.{get, entries, len, empty_of_len, get-empty}
use Rattle.std.proofs.lemmas.Bool.{true≢false, false_from_ne_true, and_parts, and_right, eqb-true}
use Rattle.std.proofs.lemmas.List.Sums.{sum_by-cons, sum_by-append}
use Rattle.std.proofs.lemmas.Slice.Eq.{bytes_eq-Decides}
use Rattle.sync_record.specs.Assemblies.{IsAssembled}
use Rattle.sync_record.specs.Devices.{bytes_cmp}
use Rattle.sync_record.specs.Records.{Name, FileRecord}
use Rattle.folder_core.specs.declared.pull_stage.PullStage.{PullStage}
use Rattle.folder_core.specs.declared.pull_stage.PullStage.TheVariants.{Pulling, Committing}
use Rattle.folder_core.specs.Announced.{KeyedRecord, best}
use Rattle.folder_core.specs.States.{FolderState, Pull, is_committing, local, same_stage, IsFolder}
use Rattle.folder_core.specs.declared.answer.Answer.{Answer}
use Rattle.folder_core.specs.declared.answer.Answer.TheVariants.{Begun, Entered, Recorded, Applied, Closed, Done}
use Rattle.folder_core.specs.declared.change.Change.{Change}
use Rattle.folder_core.specs.declared.change.Change.TheVariants.{BeginPull, EnterCommit}
use Rattle.folder_core.specs.declared.pull_info.PullInfo.{PullInfo}
use Rattle.folder_core.specs.Steps.{MayChange, is_accepted, step, finish, pull_of, with_pull, with_commit, without_pull, next_ticket}
use Rattle.folder_calls.specs.declared.entry.Entry.{Entry}
use Rattle.folder_calls.specs.Histories.{MayFollow, is_begin_of, is_end_of, is_enter_of, ends_pull_of, after, state_after, IsLegal, EndsPull, CommitsAreLegal}
use Rattle.folder_core.proofs.Orders.{bytes_total, exact_names}
use Rattle.folder_core.proofs.AnnouncedMaps.{insert_split, insert_apart, remove_split}
use Rattle.folder_core.proofs.PullOpen.{pull_of-is, pull_of-fits}
use Rattle.sync_record.proofs.Lemmas.{same_record-is}
use Rattle.folder_core.proofs.ReadAnswers.{in_left, in_right}
use Rattle.folder_core.proofs.ChangeCases.{step-cases}
use Rattle.folder_core.proofs.ChangeFolders.{step-folder}
use Rattle.folder_core.proofs.ListTests.{In, in_contains}
use Rattle.sync_record.specs.Same.{same_record}

-- an entry by which the pull entered its commit
record Entrance (es : List Entry) (n : Name) (p : Pull) : Type 0 where
  entry : Entry
  ticket : PullInfo
  listed : In entry es
  answered : entry.answer ≡ Entered ticket
  number : ticket.number ≡ p.number
  name : ticket.name ≡ n
  target : ticket.target ≡ p.target

-- What is in the history of an open pull: its begin, and after it the entry of its commit, if that was entered.
record Opened (front : List Entry) (n : Name) (p : Pull) : Type 0 where
  before : List Entry
  begun : Entry
  between : List Entry
  ticket : PullInfo
  divided : front ≡ before ++ begun ∷ between
  began : begun.answer ≡ Begun ticket
  number : ticket.number ≡ p.number
  name : ticket.name ≡ n
  target : ticket.target ≡ p.target
  base : option_map (λ r. r.version) ticket.base ≡ p.base
  begins : count_by (λ e. is_begin_of n e.answer) between ≡ 0
  enters : count_by (λ e. is_enter_of n e.answer) between ≡ cond (is_committing p) 1 0
  ends : count_by (is_end_of n) between ≡ 0
  entrance : is_committing p ≡ true → Entrance between n p

-- one more entry after those among which that of the commit is
further : (es : List Entry) (e : Entry) (n : Name) (p : Pull) → Entrance es n p → Entrance (es ++ e ∷ []) n p
further es e n p x = record {
  entry = x.entry;
  ticket = x.ticket;
  listed = in_left es (e ∷ []) x.entry x.listed;
  answered = x.answered;
  number = x.number;
  name = x.name;
  target = x.target;
}

counted-push : (f : Entry → Bool) (es : List Entry) (e : Entry) → count_by f (es ++ e ∷ []) ≡ count_by f es + cond (f e) 1 0
counted-push f es e = sum_by-append (λ x. cond (f x) 1 0) es (e ∷ []) ∙ ap (λ k. count_by f es + k) (sum_by-cons (λ x. cond (f x) 1 0) e [] ∙ one_and (cond (f e) 1 0))
  where
    one_and : (k : ℕ) → k + 0 ≡ k
    one_and k = omega arith

-- one more entry, by which the pull enters its commit, or which is of no pull of the name
goes_on : (front : List Entry) (e : Entry) (n : Name) (p q : Pull) → Opened front n p → is_begin_of n e.answer ≡ false → is_end_of n e ≡ false → p.number ≡ q.number → p.target ≡ q.target → p.base ≡ q.base → cond (is_committing p) 1 0 + cond (is_enter_of n e.answer) 1 0 ≡ cond (is_committing q) 1 0
    → ((es : List Entry) → (is_committing p ≡ true → Entrance es n p) → is_committing q ≡ true → Entrance (es ++ e ∷ []) n q) → Opened (front ++ e ∷ []) n q
goes_on front e n p q o quiet endless number target base enters entrance = record {
  before = o.before;
  begun = o.begun;
  between = o.between ++ e ∷ [];
  ticket = o.ticket;
  divided = ap (λ f. f ++ e ∷ []) o.divided ∙ append_assoc o.before (o.begun ∷ o.between) (e ∷ []);
  began = o.began;
  number = o.number ∙ number;
  name = o.name;
  target = o.target ∙ target;
  base = o.base ∙ base;
  begins = counted-push (λ x. is_begin_of n x.answer) o.between e ∙ ap (λ k. k + cond (is_begin_of n e.answer) 1 0) o.begins ∙ ap (λ b. 0 + cond b 1 0) quiet;
  enters = counted-push (λ x. is_enter_of n x.answer) o.between e ∙ ap (λ k. k + cond (is_enter_of n e.answer) 1 0) o.enters ∙ enters;
  ends = counted-push (is_end_of n) o.between e ∙ ap (λ k. k + cond (is_end_of n e) 1 0) o.ends ∙ ap (λ b. 0 + cond b 1 0) endless;
  entrance = entrance o.between o.entrance;
}

later : (front : List Entry) (e : Entry) (n : Name) (p : Pull) → Opened front n p → is_begin_of n e.answer ≡ false → is_enter_of n e.answer ≡ false → is_end_of n e ≡ false → Opened (front ++ e ∷ []) n p
later front e n p o quiet idle endless = goes_on front e n p p o quiet endless refl refl refl (ap (λ b. cond (is_committing p) 1 0 + cond b 1 0) idle ∙ and_none (cond (is_committing p) 1 0))
    (λ es old c. further es e n p (old c))
  where
    and_none : (k : ℕ) → k + 0 ≡ k
    and_none k = omega arith

not_committing : (st : PullStage) → same_stage st Pulling ≡ true → same_stage st Committing ≡ false
not_committing Pulling e = refl
not_committing Committing e = absurd (true≢false (sym e))

module _ (s : FolderState) (front : List Entry) (e : Entry) (accepted : is_accepted e.answer ≡ true) where
  abbrev Traced : FolderState → Type 0
  Traced t = (n : Name) (q : Pull) → get t.pulls n ≡ Some q → Opened (front ++ e ∷ []) n q

  module _ (old : (n : Name) (q : Pull) → get s.pulls n ≡ Some q → Opened front n q) where
    other_name : (m n : Name) → n ≢ m → bytes_eq m n ≡ false
    other_name m n other = false_from_ne_true (bytes_eq m n) (λ t. other (sym ((bytes_eq-Decides m n).0 t)))

    -- the entry's change, which ends no pull of the name
    no_end : (n : Name) (x : Change) → e.change ≡ x → ends_pull_of n x ≡ false → is_end_of n e ≡ false
    no_end n x is none = and_right (is_accepted e.answer) _ (ap (ends_pull_of n) is ∙ none)

    -- a pull that the change leaves as it is
    left : (a : Answer) (x : Change) → ((n : Name) → is_begin_of n a ≡ false) → ((n : Name) → is_enter_of n a ≡ false) → e.change ≡ x → a ≡ e.answer
        → (n : Name) (q : Pull) → ends_pull_of n x ≡ false → get s.pulls n ≡ Some q → Opened (front ++ e ∷ []) n q
    left a x quiet idle asked is n q none g =
        later front e n q (old n q g) (ap (is_begin_of n) (sym is) ∙ quiet n) (ap (is_enter_of n) (sym is) ∙ idle n) (no_end n x asked none)

    -- a change of none of the pulls
    same_pulls : (a : Answer) (x : Change) → ((n : Name) → is_begin_of n a ≡ false) → ((n : Name) → is_enter_of n a ≡ false) → ((n : Name) → ends_pull_of n x ≡ false) → e.change ≡ x → a ≡ e.answer → Traced s
    same_pulls a x quiet idle none asked is n q g = left a x quiet idle asked is n q (none n) g

    -- the end of a pull, which leaves those of other names
    closed : (a : Answer) (x : Change) (m : Name) → ((n : Name) → is_begin_of n a ≡ false) → ((n : Name) → is_enter_of n a ≡ false) → ((n : Name) → ends_pull_of n x ≡ bytes_eq m n) → e.change ≡ x → a ≡ e.answer → Traced (without_pull s m)
    closed a x m quiet idle ends asked is n q g =
        let kept = remove_split bytes_total exact_names s.pulls m n q g in
        left a x quiet idle asked is n q (ends n ∙ other_name m n kept.0) kept.1

    begun_by : (b : KeyedRecord) (m : Name) → e.change ≡ BeginPull m → is_some (get s.pulls m) ≡ false → Begun (next_ticket s m b.1) ≡ e.answer → Traced (with_pull s (next_ticket s m b.1) Pulling)
    begun_by b m asked free is n q g = by (insert_split bytes_total exact_names s.pulls m n p q g)
      where
        p : Pull
        p = record { number = (next_ticket s m b.1).number; base = option_map (λ r. r.version) (local s m); target = b.1; stage = Pulling }

        by : ((n ≡ m) × (p ≡ q)) ⊎ (get s.pulls n ≡ Some q) → Opened (front ++ e ∷ []) n q
        by (inl x) = record {
          before = front;
          begun = e;
          between = [];
          ticket = next_ticket s m b.1;
          divided = refl;
          began = sym is;
          number = ap (λ (y : Pull). y.number) x.1;
          name = sym x.0;
          target = ap (λ (y : Pull). y.target) x.1;
          base = ap (λ (y : Pull). y.base) x.1;
          begins = refl;
          enters = ap (λ (y : Pull). cond (is_committing y) 1 0) x.1;
          ends = refl;
          entrance = λ c. absurd (true≢false (sym c ∙ sym (ap is_committing x.1)));
        }
        by (inr f) = later front e n q (old n q f)
            (ap (is_begin_of n) (sym is) ∙ other_name m n (λ x. true≢false (sym (ap is_some (sym (ap (get s.pulls) x) ∙ f)) ∙ free)))
            (ap (is_enter_of n) (sym is)) (no_end n (BeginPull m) asked refl)

    entered_by : (t : PullInfo) (p : Pull) → e.change ≡ EnterCommit t → pull_of s t Pulling ≡ Some p → Entered t ≡ e.answer → Traced (with_commit s t.name p)
    entered_by t p asked found is n q g = by (insert_apart bytes_total exact_names s.pulls t.name n p' q g)
      where
        p' : Pull
        p' = record p { stage = Committing }

        open_pull : (get s.pulls t.name ≡ Some p) × (same_stage p.stage Pulling ≡ true)
        open_pull = pull_of-is s t Pulling p found

        same : ((p.number == t.number) ≡ true) × (same_record p.target t.target ≡ true)
        same = and_parts _ _ (and_parts _ _ (pull_of-fits s t Pulling p found)).0

        by : ((n ≡ t.name) × (p' ≡ q)) ⊎ ((n ≢ t.name) × (get s.pulls n ≡ Some q)) → Opened (front ++ e ∷ []) n q
        by (inl x) =
            let was : is_committing p ≡ false = not_committing p.stage open_pull.1 in
            let now : is_enter_of n e.answer ≡ true = ap (is_enter_of n) (sym is) ∙ (bytes_eq-Decides t.name n).1 (sym x.0) in
            goes_on front e n p q (old n p (ap (get s.pulls) x.0 ∙ open_pull.0)) (ap (is_begin_of n) (sym is)) (no_end n (EnterCommit t) asked refl)
            (ap (λ (y : Pull). y.number) x.1) (ap (λ (y : Pull). y.target) x.1) (ap (λ (y : Pull). y.base) x.1)
            ((λ i. cond (was i) 1 0 + cond (now i) 1 0) ∙ ap (λ (y : Pull). cond (is_committing y) 1 0) x.1)
            (λ es old c. record {
              entry = e;
              ticket = t;
              listed = in_right es (e ∷ []) e (inl refl);
              answered = sym is;
              number = sym (eqb-true p.number t.number same.0) ∙ ap (λ (y : Pull). y.number) x.1;
              name = sym x.0;
              target = sym (same_record-is p.target t.target same.1) ∙ ap (λ (y : Pull). y.target) x.1;
            })
        by (inr x) = later front e n q (old n q x.1) (ap (is_begin_of n) (sym is)) (ap (is_enter_of n) (sym is) ∙ other_name t.name n x.0) (no_end n (EnterCommit t) asked refl)

    traced_step : (c : Change) → e.change ≡ c → (step s c).0 ≡ e.answer → Traced (step s c).1
    traced_step = step-cases s (λ x d. e.change ≡ x → d.0 ≡ e.answer → Traced d.1) (record {
      tested = λ _ a no _ is. absurd (true≢false (sym accepted ∙ ap is_accepted (sym is) ∙ no));
      found = λ m x f moment _ asked is. same_pulls (Recorded (s.last + 1)) _ (λ _. refl) (λ _. refl) (λ _. refl) asked is;
      gone = λ m x moment r _ _ asked is. same_pulls (Recorded (s.last + 1)) _ (λ _. refl) (λ _. refl) (λ _. refl) asked is;
      full = λ d rs asked is. same_pulls Applied _ (λ _. refl) (λ _. refl) (λ _. refl) asked is;
      more = λ d rs asked is. same_pulls Applied _ (λ _. refl) (λ _. refl) (λ _. refl) asked is;
      forgotten = λ d asked is. same_pulls Applied _ (λ _. refl) (λ _. refl) (λ _. refl) asked is;
      begun = λ m b _ fail asked is. begun_by b m asked fail.0 is;
      entered = λ t p found _ asked is. entered_by t p asked found is;
      finished = λ t assembled p _ asked is. closed (Done (s.last + 1)) _ t.name (λ _. refl) (λ _. refl) (λ _. refl) asked is;
      given_up = λ t p _ asked is. closed Closed _ t.name (λ _. refl) (λ _. refl) (λ _. refl) asked is;
      aborted = λ t p _ asked is. closed Closed _ t.name (λ _. refl) (λ _. refl) (λ _. refl) asked is;
    })

-- ---- the begin of a pull in a legal history

-- a pull is begun over the local record, for the best
abbrev pub BeginsWell : FolderState → PullInfo → Type 0
BeginsWell s t =
    (t.base ≡ local s t.name) × (e : KeyedRecord) × (best (entries s.announced) t.name ≡ Some e) × (t.target ≡ e.1)

abbrev begins : Answer → Bool
begins (Begun t) = true
begins _ = false

abbrev ticket_of : PullInfo → Answer → PullInfo
ticket_of t (Begun u) = u
ticket_of t _ = t

other_answer : (a : Answer) (t : PullInfo) → begins a ≡ false → a ≡ Begun t → ⊥
other_answer a t no_begin is = true≢false (ap begins (sym is) ∙ no_begin)

begins-well : (s : FolderState) (c : Change) (t : PullInfo) → (step s c).0 ≡ Begun t → BeginsWell s t
begins-well s = step-cases s (λ _ d. (t : PullInfo) → d.0 ≡ Begun t → BeginsWell s t) (record {
  tested = λ _ a no t is. absurd (true≢false (ap is_accepted (sym is) ∙ no));
  found = λ m x f moment _ t is. absurd (other_answer (Recorded (s.last + 1)) t refl is);
  gone = λ m x moment r _ _ t is. absurd (other_answer (Recorded (s.last + 1)) t refl is);
  full = λ d rs t is. absurd (other_answer Applied t refl is);
  more = λ d rs t is. absurd (other_answer Applied t refl is);
  forgotten = λ d t is. absurd (other_answer Applied t refl is);
  begun = λ m b found _ t is. subst (BeginsWell s) (ap (ticket_of t) is) (refl, b, found, refl);
  entered = λ u p _ _ t is. absurd (other_answer (Entered u) t refl is);
  finished = λ u assembled p _ t is. absurd (other_answer (Done (s.last + 1)) t refl is);
  given_up = λ u p _ t is. absurd (other_answer Closed t refl is);
  aborted = λ u p _ t is. absurd (other_answer Closed t refl is);
})

-- each entry of a legal history may follow those before it
legal-at : (passes : ℕ) (front rest : List Entry) (e : Entry) (s : FolderState) → IsLegal passes s (front ++ e ∷ rest) → MayFollow passes (state_after s front) e
legal-at passes [] rest e s legal = legal.0
legal-at passes (f ∷ front) rest e s legal = legal-at passes front rest e (after s f) legal.1

pub legal-begin : (passes : ℕ) (opening : FolderState) (front rest : List Entry) (e : Entry) (t : PullInfo) → IsLegal passes opening (front ++ e ∷ rest) → e.answer ≡ Begun t → BeginsWell (state_after opening front) t
legal-begin passes opening front rest e t legal is =
    begins-well (state_after opening front) e.change t ((legal-at passes front rest e opening legal).answered ∙ is)

-- ---- the end of a pull

abbrev Traces : List Entry → FolderState → Type 0
Traces front s = (n : Name) (q : Pull) → get s.pulls n ≡ Some q → Opened front n q

-- along a legal history each open pull stays traced, and each state is a folder
walk : (passes : ℕ) (front es rest : List Entry) (s : FolderState) → Traces front s → IsFolder s → IsLegal passes s (es ++ rest) → Traces (front ++ es) (fold after s es) × IsFolder (fold after s es) × IsLegal passes (fold after s es) rest
walk passes front [] rest s traced folder legal = (λ n q g. subst (λ f. Opened f n q) (sym (append-nil front)) (traced n q g), folder, legal)
walk passes front (e ∷ es) rest s traced folder legal =
    let may = legal.0 in
    let r = walk passes (front ++ e ∷ []) es rest (after s e) (traced_step s front e may.accepted traced e.change refl may.answered) (step-folder s e.change folder may.allowed) legal.1 in
    (λ n q g. subst (λ f. Opened f n q) (append_assoc front (e ∷ []) es) (r.0 n q g), r.1, r.2)

is_committing_stage : (st : PullStage) → same_stage st Committing ≡ true → st ≡ Committing
is_committing_stage Pulling e = absurd (true≢false (sym e))
is_committing_stage Committing e = refl

module _ (passes : ℕ) (opening : FolderState) (front rest : List Entry) (done : Entry) (commit : PullInfo) (assembled : FileRecord) (legal : IsLegal passes opening (front ++ done ∷ rest)) where
  abbrev end : FolderState
  end = state_after opening front

  ends : (p : Pull) → pull_of end commit Committing ≡ Some p → Traces front end → IsFolder end → (assembled ≡ commit.target) × IsAssembled assembled → EndsPull opening front commit assembled
  ends p found traced folder owed =
      let open_pull = pull_of-is end commit Committing p found in
      let fit = and_parts _ _ (pull_of-fits end commit Committing p found) in
      let same = and_parts _ _ fit.0 in
      let o = traced commit.name p open_pull.0 in
      let x = o.entrance open_pull.1 in
      record {
        before = o.before;
        begun = o.begun;
        between = o.between;
        ticket = o.ticket;
        divided = o.divided;
        began = o.began;
        over = (legal-begin passes opening o.before (o.between ++ done ∷ rest) o.begun o.ticket
            (subst (IsLegal passes opening) (ap (λ es. es ++ done ∷ rest) o.divided ∙ append_assoc o.before (o.begun ∷ o.between) (done ∷ rest)) legal) o.began).0;
        same = (o.number ∙ eqb-true p.number commit.number same.0, o.name, o.target ∙ same_record-is p.target commit.target same.1);
        entered = x.entry;
        entered_info = x.ticket;
        enters = (in_contains o.between x.entry x.listed, x.answered);
        same_entered = (x.number ∙ eqb-true p.number commit.number same.0, x.name, x.target ∙ same_record-is p.target commit.target same.1);
        no_other_begin = o.begins;
        one_enter = o.enters ∙ ap (λ b. cond b 1 0) open_pull.1;
        no_end = o.ends;
        unmoved = folder.unmoved commit.name p open_pull.0 (is_committing_stage p.stage open_pull.1) ∙ sym o.base;
        target = owed.0;
        blocks = owed.1;
      }

  finished : (o : Option Pull) → pull_of end commit Committing ≡ o → is_accepted (finish end commit o).0 ≡ true → Traces front end → IsFolder end → (assembled ≡ commit.target) × IsAssembled assembled → EndsPull opening front commit assembled
  finished None found accepted traced folder owed = absurd (true≢false (sym accepted))
  finished (Some p) found accepted traced folder owed = ends p found traced folder owed

no_pull : (s : FolderState) → len s.pulls ≡ 0 → (n : Name) (q : Pull) → get s.pulls n ≡ Some q → Opened [] n q
no_pull s none n q g = absurd (let e : None ≡ Some q = sym (ap (λ m. get m n) (empty_of_len s.pulls none) ∙ get-empty bytes_cmp n) ∙ g in cc)

pub commits-legal : CommitsAreLegal
commits-legal passes opening front rest done commit assembled folder none legal is =
    let r = walk passes [] front (done ∷ rest) opening (no_pull opening none) folder legal in
    let may = r.2.0 in
    finished passes opening front rest done commit assembled legal (pull_of (state_after opening front) commit Committing) refl
    (ap (λ c. is_accepted (step (state_after opening front) c).0) (sym is) ∙ ap is_accepted may.answered ∙ may.accepted)
    r.0 r.1 (subst (MayChange (state_after opening front).me) is may.allowed)
