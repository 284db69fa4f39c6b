-- What an answer says of the state in which the change was made.
use Rattle.std.proofs.Common.{◌≡◌, ◌≢◌, ℕ, ◌+◌, ◌-◌, ◌<◌, ◌≤◌, Bool, true, false, refl, sym, ap, subst, ◌∙◌, arith, ◌⊎◌, inl, inr}
use Rattle.std.specs.Prelude.{not, ◌&&◌, ◌||◌, ⊤, Option, Some, None, Contains, IsTrue}
use Rattle.std.specs.Option.{option_map_or}
use Rattle.std.specs.FinMap.{get, entries}
use Rattle.std.proofs.lemmas.Bool.{true≢false, and_parts, not-false, leb-false}
use Rattle.std.proofs.lemmas.Option.{none-some}
use Rattle.sync_version.proofs.Lemmas.{same_version_tells}
use Rattle.sync_version.specs.Computed.{same_version}
use Rattle.sync_version.specs.Versions.{Vector}
use Rattle.sync_record.specs.Contents.{same_content}
use Rattle.sync_record.specs.Records.{Name, FileRecord, is_file, is_directory}
use Rattle.sync_record.specs.Validity.{is_valid}
use Rattle.folder_core.specs.declared.pull_stage.PullStage.{PullStage}
use Rattle.folder_core.specs.declared.pull_stage.PullStage.TheVariants.{Pulling, Committing}
use Rattle.folder_core.specs.Announced.{KeyedRecord, best}
use Rattle.folder_core.specs.States.{FolderState, HaveOwnNumbers, NoCommit, Pull, is_committing, local, local_version, max_sequence, need, open_commits, same_stage}
use Rattle.folder_core.specs.declared.answer.Answer.{Answer}
use Rattle.folder_core.specs.declared.answer.Answer.TheVariants.{Begun, Closed, Done, Entered, Recorded, Stray}
use Rattle.folder_core.specs.declared.change.Change.{Change}
use Rattle.folder_core.specs.declared.change.Change.TheVariants.{ScanFound, ScanGone, BeginPull, EnterCommit, Finish, GiveUp, Abort}
use Rattle.folder_core.specs.declared.finding.Finding.{Finding}
use Rattle.folder_core.specs.declared.pull_info.PullInfo.{PullInfo}
use Rattle.folder_core.specs.Steps.{IsFor, is_accepted, next_ticket, step}
use Rattle.folder_core.proofs.AnnouncedMaps.{insert_apart, insert_here, insert_other, remove_here, remove_other, remove_split}
use Rattle.folder_core.proofs.BestRule.{best-found}
use Rattle.folder_core.proofs.ChangeAnswers.{abort-closed, enter-known, finish-done, found-ticket, give_up-closed, is_stray}
use Rattle.folder_core.proofs.ChangeCases.{found_now, step-cases}
use Rattle.folder_core.proofs.ChangeFolders.{same_local}
use Rattle.folder_core.proofs.ChangeRest.{same_or_not}
use Rattle.folder_core.proofs.ListTests.{inside, none_of}
use Rattle.folder_core.proofs.Orders.{bytes_total, exact_names}
use Rattle.folder_core.proofs.PullNeed.{needed-listed}
use Rattle.folder_core.proofs.PullNumbers.{number-least}
use Rattle.folder_core.proofs.PullOpen.{pull_of-is}
use Rattle.folder_core.proofs.PullStages.{begun_pull}

-- ---- begun

abbrev pub IsBegun : FolderState → Name → PullInfo → Type 0
IsBegun s n t =
    (t.name ≡ n) × (t.base ≡ local s n) × IsTrue (is_valid t.target)
    × ((t.target.deleted ≡ true) ⊎ ((is_file t.target ≡ true) ⊎ (is_directory t.target ≡ true)))
    × ((e : KeyedRecord) × (best (entries s.announced) n ≡ Some e) × (t.target ≡ e.1))
    × Contains (need s) n × (get s.pulls n ≡ None)
    × (1 ≤ t.number) × ((m : Name) (p : Pull) → get s.pulls m ≡ Some p → p.number ≢ t.number)

abbrev asked_name : Change → Option Name
asked_name (BeginPull n) = Some n
asked_name _ = None

abbrev Begins : FolderState → Option Name → Answer → Type 0
Begins s (Some n) (Begun t) = IsBegun s n t
Begins s (Some n) _ = ⊤
Begins s None a = ⊤

not-begun : (s : FolderState) (o : Option Name) (a : Answer) → is_accepted a ≡ false → Begins s o a
not-begun s (Some n) (Begun t) unmade = absurd (true≢false unmade)
not-begun s (Some n) _ unmade = tt
not-begun s None a unmade = tt

kind : (deleted file directory : Bool) → ((not deleted) && not (file || directory)) ≡ false → (deleted ≡ true) ⊎ ((file ≡ true) ⊎ (directory ≡ true))
kind true file directory e = inl refl
kind false true directory e = inr (inl refl)
kind false false true e = inr (inr refl)
kind false false false e = absurd (true≢false e)

begins : (s : FolderState) (c : Change) → Begins s (asked_name c) (step s c).0
begins s = step-cases s (λ c d. Begins s (asked_name c) d.0) (record {
  tested = λ c a unmade. not-begun s (asked_name c) a unmade;
  found = λ n expected f moment _. tt;
  gone = λ n expected moment r _ _. tt;
  full = λ d rs. tt;
  more = λ d rs. tt;
  forgotten = λ d. tt;
  begun = λ n b is fails.
      let least = number-least s in (
        refl,
        refl,
        (best-found s.announced n b is).1.candidate.valid,
        kind b.1.deleted (is_file b.1) (is_directory b.1) fails.1.1.0,
        (b, is, refl),
        needed-listed s n b is (not-false _ fails.1.0),
        none_of (get s.pulls n) fails.0,
        least.0,
        least.1,
      );
  entered = λ t p found _. tt;
  finished = λ t assembled p found. tt;
  given_up = λ t p found. tt;
  aborted = λ t p found. tt;
})

pub begun-says : (s : FolderState) (n : Name) (t : PullInfo) → (step s (BeginPull n)).0 ≡ Begun t → IsBegun s n t
begun-says s n t is = subst (Begins s (Some n)) is (begins s (BeginPull n))

-- ---- entered

abbrev pub IsEntered : FolderState → PullInfo → PullInfo → Type 0
IsEntered s t c =
    (c ≡ t) × (p : Pull) × IsFor s t Pulling p × (local_version s t.name ≡ p.base)
    × ((e : KeyedRecord) × (best (entries s.announced) t.target.name ≡ Some e) × (e.1.version ≡ t.target.version) × IsTrue (same_content e.1 t.target))
    × (open_commits s < max_sequence - s.last)

abbrev asked_ticket : Change → Option PullInfo
asked_ticket (EnterCommit t) = Some t
asked_ticket _ = None

abbrev Enters : FolderState → Option PullInfo → Answer → Type 0
Enters s (Some t) (Entered c) = IsEntered s t c
Enters s (Some t) _ = ⊤
Enters s None a = ⊤

not-entered : (s : FolderState) (o : Option PullInfo) (a : Answer) → is_accepted a ≡ false → Enters s o a
not-entered s (Some t) (Entered c) unmade = absurd (true≢false unmade)
not-entered s (Some t) _ unmade = tt
not-entered s None a unmade = tt

still-best : (r : FileRecord) (o : Option KeyedRecord) → option_map_or (λ b. same_version b.1.version r.version && same_content b.1 r) o false ≡ true
    → (e : KeyedRecord) × (o ≡ Some e) × (e.1.version ≡ r.version) × IsTrue (same_content e.1 r)
still-best r None e = absurd (true≢false (sym e))
still-best r (Some b) e =
    let u = and_parts _ _ e in
    (b, refl, (same_version_tells b.1.version r.version).0 u.0, u.1)

enters : (s : FolderState) (c : Change) → Enters s (asked_ticket c) (step s c).0
enters s = step-cases s (λ c d. Enters s (asked_ticket c) d.0) (record {
  tested = λ c a unmade. not-entered s (asked_ticket c) a unmade;
  found = λ n expected f moment _. tt;
  gone = λ n expected moment r _ _. tt;
  full = λ d rs. tt;
  more = λ d rs. tt;
  forgotten = λ d. tt;
  begun = λ n b is fails. tt;
  entered = λ t p found fails.
      let st = found-ticket s t Pulling p found in
      let still = still-best p.target (best (entries s.announced) p.target.name) (not-false _ fails.1.0) in (
        refl,
        p,
        st,
        same_local (local_version s t.name) p.base (not-false _ fails.0),
        subst (λ r. (e : KeyedRecord) × (best (entries s.announced) r.name ≡ Some e) × (e.1.version ≡ r.version) × IsTrue (same_content e.1 r)) st.target still,
        let h = leb-false (max_sequence - s.last) (open_commits s) fails.1.1.0 in omega arith,
      );
  finished = λ t assembled p found. tt;
  given_up = λ t p found. tt;
  aborted = λ t p found. tt;
})

pub entered-says : (s : FolderState) (t c : PullInfo) → (step s (EnterCommit t)).0 ≡ Entered c → IsEntered s t c
entered-says s t c is = subst (Enters s (Some t)) is (enters s (EnterCommit t))

-- ---- recorded

abbrev Scans : FolderState → Change → Answer → Type 0
Scans s (ScanFound n expected f moment) (Recorded k) =
    NoCommit s n × (expected ≡ local_version s n) × ((r : FileRecord) → local s n ≡ Some r → same_content (found_now s n f moment) r ≡ false)
Scans s (ScanGone n expected moment) (Recorded k) = NoCommit s n × (expected ≡ local_version s n) × (r : FileRecord) × (local s n ≡ Some r) × (r.deleted ≡ false)
Scans s _ _ = ⊤

not-scanned : (s : FolderState) (c : Change) (a : Answer) → is_accepted a ≡ false → Scans s c a
not-scanned s (ScanFound n expected f moment) (Recorded k) unmade = absurd (true≢false unmade)
not-scanned s (ScanGone n expected moment) (Recorded k) unmade = absurd (true≢false unmade)
not-scanned s _ _ unmade = tt

module _ (s : FolderState) (n : Name) where
  idle : option_map_or is_committing (get s.pulls n) false ≡ false → NoCommit s n
  idle e p g = at p.stage (ap (λ o. option_map_or is_committing o false) (sym g) ∙ e)
    where
      at : (stage : PullStage) → same_stage stage Committing ≡ false → stage ≡ Pulling
      at Pulling e = refl
      at Committing e = absurd (true≢false e)

  other-content : (f : FileRecord → Bool) → option_map_or f (local s n) false ≡ false → (r : FileRecord) → local s n ≡ Some r → f r ≡ false
  other-content f e r is = ap (λ o. option_map_or f o false) (sym is) ∙ e

scans : (s : FolderState) (c : Change) → Scans s c (step s c).0
scans s = step-cases s (λ c d. Scans s c d.0) (record {
  tested = not-scanned s;
  found = λ n expected f moment fails. (
    idle s n fails.0,
    sym (same_local (local_version s n) expected (not-false _ fails.1.0)),
    other-content s n (same_content (found_now s n f moment)) fails.1.1.0,
  );
  gone = λ n expected moment r is fails. (idle s n fails.0, sym (same_local (local_version s n) expected (not-false _ fails.1.0)), r, is, fails.1.1.0);
  full = λ d rs. tt;
  more = λ d rs. tt;
  forgotten = λ d. tt;
  begun = λ n b is fails. tt;
  entered = λ t p found _. tt;
  finished = λ t assembled p found. tt;
  given_up = λ t p found. tt;
  aborted = λ t p found. tt;
})

pub found-says : (s : FolderState) (n : Name) (expected : Option Vector) (f : Finding) (moment k : ℕ) → (step s (ScanFound n expected f moment)).0 ≡ Recorded k
    → NoCommit s n × (expected ≡ local_version s n) × ((r : FileRecord) → local s n ≡ Some r → same_content (found_now s n f moment) r ≡ false)
found-says s n expected f moment k is = subst (Scans s (ScanFound n expected f moment)) is (scans s (ScanFound n expected f moment))

pub gone-says : (s : FolderState) (n : Name) (expected : Option Vector) (moment k : ℕ) → (step s (ScanGone n expected moment)).0 ≡ Recorded k
    → NoCommit s n × (expected ≡ local_version s n) × (r : FileRecord) × (local s n ≡ Some r) × (r.deleted ≡ false)
gone-says s n expected moment k is = subst (Scans s (ScanGone n expected moment)) is (scans s (ScanGone n expected moment))

-- ---- stray

apart : (a b : Answer) → is_stray a ≡ false → is_stray b ≡ true → a ≡ b → ⊥
apart a b f t same = true≢false (sym t ∙ ap is_stray (sym same) ∙ f)

pub stray-ticket : (s : FolderState) (t : PullInfo) → ((step s (EnterCommit t)).0 ≡ Stray) ⊎ ((step s (GiveUp t)).0 ≡ Stray) → (p : Pull) → ¬ (IsFor s t Pulling p)
stray-ticket s t (inl e) p st = enter-known s t p st e
stray-ticket s t (inr e) p st = apart Closed Stray refl refl (sym (give_up-closed s t p st) ∙ e)

pub stray-commit : (s : FolderState) (c : PullInfo) (assembled : FileRecord) → ((step s (Finish c assembled)).0 ≡ Stray) ⊎ ((step s (Abort c)).0 ≡ Stray)
    → (p : Pull) → ¬ (IsFor s c Committing p)
stray-commit s c assembled (inl e) p st = apart (Done (s.last + 1)) Stray refl refl (sym (finish-done s c assembled p st) ∙ e)
stray-commit s c assembled (inr e) p st = apart Closed Stray refl refl (sym (abort-closed s c p st) ∙ e)

-- ---- open pulls

-- the change ends a pull of the name
abbrev pub EndsAt : Change → Name → Type 0
EndsAt c n = (t : PullInfo) × (t.name ≡ n) × ((c ≡ GiveUp t) ⊎ ((c ≡ Abort t) ⊎ ((r : FileRecord) × (c ≡ Finish t r))))

abbrev Stays : FolderState → Change → Answer × FolderState → Type 0
Stays s c d =
    (n : Name) (p : Pull) → get s.pulls n ≡ Some p
    → ((q : Pull) × (get d.1.pulls n ≡ Some q) × ((q ≡ p) ⊎ (q ≡ record p { stage = Committing })))
    ⊎ ((get d.1.pulls n ≡ None) × (is_accepted d.0 ≡ true) × EndsAt c n)

pub pulls-stay : (s : FolderState) (c : Change) → Stays s c (step s c)
pulls-stay s = step-cases s (Stays s) (record {
  tested = λ c a _ n p g. inl (p, g, inl refl);
  found = λ m expected f moment _ n p g. inl (p, g, inl refl);
  gone = λ m expected moment r _ _ n p g. inl (p, g, inl refl);
  full = λ d rs n p g. inl (p, g, inl refl);
  more = λ d rs n p g. inl (p, g, inl refl);
  forgotten = λ d n p g. inl (p, g, inl refl);
  begun = λ m b _ fails n p g. inl (
    p,
    insert_other bytes_total exact_names s.pulls m n _ (λ same.
        none-some p (sym (none_of (get s.pulls m) fails.0) ∙ ap (get s.pulls) (sym same) ∙ g)) ∙ g,
    inl refl,
  );
  entered = λ t q found _ n p g. same_or_not n t.name (λ same.
      let here : q ≡ p = inside q p (sym (pull_of-is s t Pulling q found).0 ∙ ap (get s.pulls) (sym same) ∙ g) in
      inl (
        record q { stage = Committing },
        ap (get _) same ∙ insert_here bytes_total exact_names s.pulls t.name (record q { stage = Committing }),
        inr (ap (λ (x : Pull). record x { stage = Committing }) here),
      ))
      (λ other. inl (p, insert_other bytes_total exact_names s.pulls t.name n _ other ∙ g, inl refl));
  finished = λ t assembled q found n p g. same_or_not n t.name
      (λ same. inr (ap (get _) same ∙ remove_here bytes_total exact_names s.pulls t.name, refl, (t, sym same, inr (inr (assembled, refl)))))
      (λ other. inl (p, remove_other bytes_total exact_names s.pulls t.name n other ∙ g, inl refl));
  given_up = λ t q found n p g. same_or_not n t.name
      (λ same. inr (ap (get _) same ∙ remove_here bytes_total exact_names s.pulls t.name, refl, (t, sym same, inl refl)))
      (λ other. inl (p, remove_other bytes_total exact_names s.pulls t.name n other ∙ g, inl refl));
  aborted = λ t q found n p g. same_or_not n t.name
      (λ same. inr (ap (get _) same ∙ remove_here bytes_total exact_names s.pulls t.name, refl, (t, sym same, inr (inl refl))))
      (λ other. inl (p, remove_other bytes_total exact_names s.pulls t.name n other ∙ g, inl refl));
})

-- a pull of the state after is one of the state before, but for a begun one
abbrev OldOr : FolderState → Option Name → Answer × FolderState → Type 0
OldOr s o d =
    (n : Name) (q : Pull) → get d.1.pulls n ≡ Some q
    → ((p : Pull) × (get s.pulls n ≡ Some p) × (p.number ≡ q.number))
    ⊎ ((o ≡ Some n) × ((m : Name) (p : Pull) → get s.pulls m ≡ Some p → p.number ≢ q.number))

old-or : (s : FolderState) (c : Change) → OldOr s (asked_name c) (step s c)
old-or s = step-cases s (λ c d. OldOr s (asked_name c) d) (record {
  tested = λ c a _ n q g. inl (q, g, refl);
  found = λ m expected f moment _ n q g. inl (q, g, refl);
  gone = λ m expected moment r _ _ n q g. inl (q, g, refl);
  full = λ d rs n q g. inl (q, g, refl);
  more = λ d rs n q g. inl (q, g, refl);
  forgotten = λ d n q g. inl (q, g, refl);
  begun = λ m b _ _ n q g. begun-or m b.1 n q (insert_apart bytes_total exact_names s.pulls m n (begun_pull (next_ticket s m b.1)) q g);
  entered = λ t p found _ n q g. entered-or t p (pull_of-is s t Pulling p found).0 n q (insert_apart bytes_total exact_names s.pulls t.name n (record p { stage = Committing }) q g);
  finished = λ t assembled p _ n q g. inl (q, (remove_split bytes_total exact_names s.pulls t.name n q g).1, refl);
  given_up = λ t p _ n q g. inl (q, (remove_split bytes_total exact_names s.pulls t.name n q g).1, refl);
  aborted = λ t p _ n q g. inl (q, (remove_split bytes_total exact_names s.pulls t.name n q g).1, refl);
})
  where
    begun-or : (m : Name) (r : FileRecord) (n : Name) (q : Pull) → ((n ≡ m) × (begun_pull (next_ticket s m r) ≡ q)) ⊎ ((n ≢ m) × (get s.pulls n ≡ Some q))
        → ((p : Pull) × (get s.pulls n ≡ Some p) × (p.number ≡ q.number))
        ⊎ ((Some m ≡ Some n) × ((j : Name) (p : Pull) → get s.pulls j ≡ Some p → p.number ≢ q.number))
    begun-or m r n q (inr old) = inl (q, old.1, refl)
    begun-or m r n q (inl new) = inr (ap Some (sym new.0), λ j p g e. (number-least s).1 j p g (e ∙ ap (λ (x : Pull). x.number) (sym new.1)))

    entered-or : (t : PullInfo) (p : Pull) → get s.pulls t.name ≡ Some p → (n : Name) (q : Pull)
        → ((n ≡ t.name) × (record p { stage = Committing } ≡ q)) ⊎ ((n ≢ t.name) × (get s.pulls n ≡ Some q))
        → ((p : Pull) × (get s.pulls n ≡ Some p) × (p.number ≡ q.number)) ⊎ ((None ≡ Some n) × ((m : Name) (p : Pull) → get s.pulls m ≡ Some p → p.number ≢ q.number))
    entered-or t p g n q (inr old) = inl (q, old.1, refl)
    entered-or t p g n q (inl new) = inl (p, ap (get s.pulls) new.0 ∙ g, ap (λ (x : Pull). x.number) new.1)

-- so their numbers stay apart
pub own-numbers : (s : FolderState) (c : Change) → HaveOwnNumbers s → HaveOwnNumbers (step s c).1
own-numbers s c own m n p q g h same = by (old-or s c m p g) (old-or s c n q h)
  where
    by : ((x : Pull) × (get s.pulls m ≡ Some x) × (x.number ≡ p.number)) ⊎ ((asked_name c ≡ Some m) × ((j : Name) (x : Pull) → get s.pulls j ≡ Some x → x.number ≢ p.number))
        → ((x : Pull) × (get s.pulls n ≡ Some x) × (x.number ≡ q.number)) ⊎ ((asked_name c ≡ Some n) × ((j : Name) (x : Pull) → get s.pulls j ≡ Some x → x.number ≢ q.number))
        → m ≡ n
    by (inl a) (inl b) = own m n a.0 b.0 a.1 b.1 (a.2 ∙ same ∙ sym b.2)
    by (inl a) (inr b) = absurd (b.1 m a.0 a.1 (a.2 ∙ same))
    by (inr a) (inl b) = absurd (a.1 n b.0 b.1 (b.2 ∙ sym same))
    by (inr a) (inr b) = inside m n (sym a.0 ∙ b.0)
