-- In which order scans, entering a commit and the ends of a pull are tested.
use Rattle.std.proofs.Common.{◌≡◌, ◌≢◌, ℕ, ◌+◌, ◌-◌, ◌^◌, ◌<◌, ◌≤◌, Bool, true, false, List, [], ◌∷◌, refl, sym, ap, ◌∙◌}
use Rattle.std.specs.Prelude.{not, ◌&&◌, ◌==◌, if◌then◌else◌, Option, Some, None, option_and_then, unwrap_or}
use Rattle.std.specs.Option.{option_map_or}
use Rattle.std.specs.FinMap.{get, entries}
use Rattle.std.proofs.lemmas.Bool.{cond-true, and_parts, and_from, eq-eqb, eqb-true, ne_eqb, le-leb, lt-leb, not_from_true, not_from_false, false_from_ne_true, true≢false}
use Rattle.sync_version.proofs.Lemmas.{same_version_tells}
use Rattle.sync_version.specs.Computed.{same_version, is_counter_full}
use Rattle.sync_version.specs.Versions.{Vector}
use Rattle.sync_record.specs.Contents.{same_content}
use Rattle.sync_record.specs.Devices.{short_id}
use Rattle.sync_record.specs.Records.{Name, FileRecord}
use Rattle.sync_record.specs.Same.{same_record}
use Rattle.folder_core.specs.declared.pull_stage.PullStage.{PullStage}
use Rattle.folder_core.specs.declared.pull_stage.PullStage.TheVariants.{Pulling, Committing}
use Rattle.folder_core.specs.Announced.{KeyedRecord, best}
use Rattle.folder_core.specs.States.{FolderState, Pull, local, local_version, same_local_version, same_stage, is_committing, is_sequence_full, open_commits, max_sequence}
use Rattle.folder_core.specs.declared.answer.Answer.{Answer}
use Rattle.folder_core.specs.declared.answer.Answer.TheVariants.{Busy, Moved, Unchanged, CounterFull, SequenceFull, Recorded, Stray, LocalMoved, Superseded, Entered, Done, Closed}
use Rattle.folder_core.specs.declared.change.Change.TheVariants.{ScanFound, ScanGone, EnterCommit, Finish, GiveUp, Abort}
use Rattle.folder_core.specs.declared.finding.Finding.{Finding}
use Rattle.folder_core.specs.declared.pull_info.PullInfo.{PullInfo}
use Rattle.folder_core.specs.Steps.{step, first_answer, scan_gone, scan_tests, enter_commit, finish, close_pull, pull_of, is_pull_committing, is_still_best, own_counter, with_local, with_commit, IsFor}
use Rattle.folder_core.proofs.ChangeFolders.{same_local}
use Rattle.folder_core.proofs.PullOpen.{pull_of-is, pull_of-fits}
use Rattle.sync_record.proofs.Lemmas.{same_record-is, same_record-own}
use Rattle.folder_core.proofs.ChangeCases.{holds, fails, found_now, gone_now}

same_local-own : (v : Option Vector) → same_local_version v v ≡ true
same_local-own None = refl
same_local-own (Some v) = (same_version_tells v v).1 refl

stage-is : (st want : PullStage) → same_stage st want ≡ true → st ≡ want
stage-is Pulling Pulling e = refl
stage-is Committing Committing e = refl
stage-is Pulling Committing e = absurd (true≢false (sym e))
stage-is Committing Pulling e = absurd (true≢false (sym e))

-- no commit of the name is open
abbrev pub Idle : FolderState → Name → Type 0
Idle s n = (p : Pull) → get s.pulls n ≡ Some p → p.stage ≡ Pulling

abbrev answer : Answer × FolderState → Answer
answer d = d.0

-- ---- scans

module _ (s : FolderState) (n : Name) where
  is_busy : (p : Pull) → get s.pulls n ≡ Some p → p.stage ≡ Committing → is_pull_committing s n ≡ true
  is_busy p g c = ap (λ o. option_map_or is_committing o false) g ∙ ap (λ st. same_stage st Committing) c

  is_idle : Idle s n → is_pull_committing s n ≡ false
  is_idle idle =
      elim (get s.pulls n) as (λ o. get s.pulls n ≡ o → option_map_or is_committing o false ≡ false) [
        | None ↦ λ _. refl
        | Some p ↦ λ g. ap (λ st. same_stage st Committing) (idle p g)
      ] refl

  module _ (expected : Option Vector) (unchanged : Bool) (made : Answer × FolderState) where
    abbrev scanned : Answer × FolderState
    scanned = first_answer s (scan_tests s n expected unchanged) made

    abbrev sequence_tests : List (Bool × Answer)
    sequence_tests = (is_sequence_full s, SequenceFull) ∷ []

    abbrev counter_tests : List (Bool × Answer)
    counter_tests = (is_counter_full (unwrap_or (local_version s n) []) (short_id s.me), CounterFull) ∷ sequence_tests

    abbrev unchanged_tests : List (Bool × Answer)
    unchanged_tests = (unchanged, Unchanged) ∷ counter_tests

    abbrev moved_test : Bool × Answer
    moved_test = (not (same_local_version (local_version s n) expected), Moved (local_version s n))

    scan-busy : (p : Pull) → get s.pulls n ≡ Some p → p.stage ≡ Committing → answer scanned ≡ Busy
    scan-busy p g c = ap answer (holds s (is_pull_committing s n, Busy) (moved_test ∷ unchanged_tests) made (is_busy p g c))

    module _ (idle : Idle s n) where
      past-busy : scanned ≡ first_answer s (moved_test ∷ unchanged_tests) made
      past-busy = fails s (is_pull_committing s n, Busy) (moved_test ∷ unchanged_tests) made (is_idle idle)

      scan-moved : expected ≢ local_version s n → answer scanned ≡ Moved (local_version s n)
      scan-moved other =
          ap answer (past-busy ∙ holds s moved_test unchanged_tests made
          (not_from_false _ (false_from_ne_true _ (λ t. other (sym (same_local (local_version s n) expected t))))))

      module _ (same : local_version s n ≡ expected) where
        past-moved : scanned ≡ first_answer s unchanged_tests made
        past-moved =
            past-busy ∙ fails s moved_test unchanged_tests made
            (not_from_true _ (ap (same_local_version (local_version s n)) (sym same) ∙ same_local-own (local_version s n)))

        scan-unchanged : unchanged ≡ true → answer scanned ≡ Unchanged
        scan-unchanged e = ap answer (past-moved ∙ holds s (unchanged, Unchanged) counter_tests made e)

        module _ (changed : unchanged ≡ false) where
          past-unchanged : scanned ≡ first_answer s counter_tests made
          past-unchanged = past-moved ∙ fails s (unchanged, Unchanged) counter_tests made changed

          scan-counter : own_counter s n ≡ 2 ^ 64 - 1 → answer scanned ≡ CounterFull
          scan-counter e =
              ap answer (past-unchanged ∙ holds s (is_counter_full (unwrap_or (local_version s n) []) (short_id s.me), CounterFull) sequence_tests made
              (eq-eqb (own_counter s n) (2 ^ 64 - 1) e))

          module _ (left : own_counter s n ≢ 2 ^ 64 - 1) where
            past-counter : scanned ≡ first_answer s sequence_tests made
            past-counter =
                past-unchanged ∙ fails s (is_counter_full (unwrap_or (local_version s n) []) (short_id s.me), CounterFull) sequence_tests made
                (ne_eqb (own_counter s n) (2 ^ 64 - 1) left)

            scan-sequence : max_sequence - s.last ≤ open_commits s → answer scanned ≡ SequenceFull
            scan-sequence h = ap answer (past-counter ∙ holds s (is_sequence_full s, SequenceFull) [] made (le-leb (max_sequence - s.last) (open_commits s) h))

            scan-made : open_commits s < max_sequence - s.last → scanned ≡ made
            scan-made h = past-counter ∙ fails s (is_sequence_full s, SequenceFull) [] made (lt-leb (max_sequence - s.last) (open_commits s) h)

module _ (s : FolderState) (n : Name) (f : Finding) (moment : ℕ) where
  -- what was found is the content of the local record
  abbrev pub is_same : Bool
  is_same = option_map_or (same_content (found_now s n f moment)) (local s n) false

  abbrev recorded : Answer × FolderState
  recorded = (Recorded (s.last + 1), with_local s (found_now s n f moment))

  is_same-at : (r : FileRecord) → local s n ≡ Some r → same_content (found_now s n f moment) r ≡ true → is_same ≡ true
  is_same-at r e t = ap (λ o. option_map_or (same_content (found_now s n f moment)) o false) e ∙ t

  is_other-at : ((r : FileRecord) → local s n ≡ Some r → same_content (found_now s n f moment) r ≡ false) → is_same ≡ false
  is_other-at each =
      elim (local s n) as (λ o. local s n ≡ o → option_map_or (same_content (found_now s n f moment)) o false ≡ false) [
        | None ↦ λ _. refl
        | Some r ↦ λ e. each r e
      ] refl

  pub found-busy : (expected : Option Vector) (p : Pull) → get s.pulls n ≡ Some p → p.stage ≡ Committing → (step s (ScanFound n expected f moment)).0 ≡ Busy
  found-busy expected = scan-busy s n expected is_same recorded

  pub found-moved : (expected : Option Vector) → Idle s n → expected ≢ local_version s n → (step s (ScanFound n expected f moment)).0 ≡ Moved (local_version s n)
  found-moved expected idle other = scan-moved s n expected is_same recorded idle other

  pub found-unchanged : (r : FileRecord) → Idle s n → local s n ≡ Some r → same_content (found_now s n f moment) r ≡ true → (step s (ScanFound n (local_version s n) f moment)).0 ≡ Unchanged
  found-unchanged r idle e t = scan-unchanged s n (local_version s n) is_same recorded idle refl (is_same-at r e t)

  module _ (idle : Idle s n) (other : (r : FileRecord) → local s n ≡ Some r → same_content (found_now s n f moment) r ≡ false) where
    pub found-counter : own_counter s n ≡ 2 ^ 64 - 1 → (step s (ScanFound n (local_version s n) f moment)).0 ≡ CounterFull
    found-counter e = scan-counter s n (local_version s n) is_same recorded idle refl (is_other-at other) e

    pub found-sequence : own_counter s n ≢ 2 ^ 64 - 1 → max_sequence - s.last ≤ open_commits s → (step s (ScanFound n (local_version s n) f moment)).0 ≡ SequenceFull
    found-sequence left h = scan-sequence s n (local_version s n) is_same recorded idle refl (is_other-at other) left h

    pub found-made : own_counter s n ≢ 2 ^ 64 - 1 → open_commits s < max_sequence - s.last → (step s (ScanFound n (local_version s n) f moment)).0 ≡ Recorded (s.last + 1)
    found-made left h = ap answer (scan-made s n (local_version s n) is_same recorded idle refl (is_other-at other) left h)

module _ (s : FolderState) (n : Name) (moment : ℕ) where
  gone-by : (expected : Option Vector) (a : Answer) → ((unchanged : Bool) (made : Answer × FolderState) → answer (first_answer s (scan_tests s n expected unchanged) made) ≡ a)
      → (step s (ScanGone n expected moment)).0 ≡ a
  gone-by expected a each =
      elim (local s n) as (λ o. answer (scan_gone s n expected moment o) ≡ a) [ None ↦ each true (Unchanged, s) | Some r ↦ each r.deleted (Recorded (s.last + 1), with_local s (gone_now s n r moment)) ]

  pub gone-busy : (expected : Option Vector) (p : Pull) → get s.pulls n ≡ Some p → p.stage ≡ Committing → (step s (ScanGone n expected moment)).0 ≡ Busy
  gone-busy expected p g c = gone-by expected Busy (λ u made. scan-busy s n expected u made p g c)

  pub gone-moved : (expected : Option Vector) → Idle s n → expected ≢ local_version s n → (step s (ScanGone n expected moment)).0 ≡ Moved (local_version s n)
  gone-moved expected idle other = gone-by expected (Moved (local_version s n)) (λ u made. scan-moved s n expected u made idle other)

  pub gone-unchanged : Idle s n → ((r : FileRecord) → local s n ≡ Some r → r.deleted ≡ true) → (step s (ScanGone n (local_version s n) moment)).0 ≡ Unchanged
  gone-unchanged idle deleted =
      elim (local s n) as (λ o. local s n ≡ o → answer (scan_gone s n (local_version s n) moment o) ≡ Unchanged) [
        | None ↦ λ _. scan-unchanged s n (local_version s n) true (Unchanged, s) idle refl refl
        | Some r ↦ λ e. scan-unchanged s n (local_version s n) r.deleted (Recorded (s.last + 1), with_local s (gone_now s n r moment)) idle refl (deleted r e)
      ] refl

  module _ (idle : Idle s n) (r : FileRecord) (there : local s n ≡ Some r) (live : r.deleted ≡ false) where
    abbrev gone_made : Answer × FolderState
    gone_made = (Recorded (s.last + 1), with_local s (gone_now s n r moment))

    at : step s (ScanGone n (local_version s n) moment) ≡ first_answer s (scan_tests s n (local_version s n) r.deleted) gone_made
    at = ap (scan_gone s n (local_version s n) moment) there

    pub gone-counter : own_counter s n ≡ 2 ^ 64 - 1 → (step s (ScanGone n (local_version s n) moment)).0 ≡ CounterFull
    gone-counter e = ap answer at ∙ scan-counter s n (local_version s n) r.deleted gone_made idle refl live e

    pub gone-sequence : own_counter s n ≢ 2 ^ 64 - 1 → max_sequence - s.last ≤ open_commits s → (step s (ScanGone n (local_version s n) moment)).0 ≡ SequenceFull
    gone-sequence left h = ap answer at ∙ scan-sequence s n (local_version s n) r.deleted gone_made idle refl live left h

    pub gone-made : own_counter s n ≢ 2 ^ 64 - 1 → open_commits s < max_sequence - s.last → (step s (ScanGone n (local_version s n) moment)).0 ≡ Recorded (s.last + 1)
    gone-made left h = ap answer (at ∙ scan-made s n (local_version s n) r.deleted gone_made idle refl live left h)

-- ---- open pulls

abbrev pub is_stray : Answer → Bool
is_stray Stray = true
is_stray _ = false

abbrev fits_ticket : PullInfo → PullStage → Pull → Bool
fits_ticket t stage p = (p.number == t.number) && same_record p.target t.target && same_stage p.stage stage

pub ticket-found : (s : FolderState) (t : PullInfo) (stage : PullStage) (p : Pull) → IsFor s t stage p → pull_of s t stage ≡ Some p
ticket-found s t stage p st =
    ap (option_and_then (λ q. if fits_ticket t stage q then Some q else None)) st.open_pull
    ∙ cond-true (fits_ticket t stage p) (Some p) None
    (and_from _ _ (and_from _ _ (eq-eqb p.number t.number st.number)
    (ap (λ r. same_record r t.target) st.target ∙ same_record-own t.target))
    (ap (λ x. same_stage x stage) st.at_stage ∙ own stage))
  where
    own : (x : PullStage) → same_stage x x ≡ true
    own Pulling = refl
    own Committing = refl

pub found-ticket : (s : FolderState) (t : PullInfo) (stage : PullStage) (p : Pull) → pull_of s t stage ≡ Some p → IsFor s t stage p
found-ticket s t stage p found =
    let is = pull_of-is s t stage p found in
    let fit = and_parts _ _ (pull_of-fits s t stage p found) in
    let same = and_parts _ _ fit.0 in
    record {
      open_pull = is.0;
      at_stage = stage-is p.stage stage is.1;
      number = eqb-true p.number t.number same.0;
      target = same_record-is p.target t.target same.1;
    }

no-ticket : (s : FolderState) (t : PullInfo) (stage : PullStage) → ((p : Pull) → ¬ (IsFor s t stage p)) → pull_of s t stage ≡ None
no-ticket s t stage none = by (pull_of s t stage) refl
  where
    by : (o : Option Pull) → pull_of s t stage ≡ o → o ≡ None
    by None e = refl
    by (Some p) e = absurd (none p (found-ticket s t stage p e))

module _ (s : FolderState) (t : PullInfo) where
  pub enter-stray : ((p : Pull) → ¬ (IsFor s t Pulling p)) → (step s (EnterCommit t)).0 ≡ Stray
  enter-stray none = ap (λ o. answer (enter_commit s t o)) (no-ticket s t Pulling none)

  pub finish-stray : (assembled : FileRecord) → ((p : Pull) → ¬ (IsFor s t Committing p)) → (step s (Finish t assembled)).0 ≡ Stray
  finish-stray assembled none = ap (λ o. answer (finish s t o)) (no-ticket s t Committing none)

  pub finish-done : (assembled : FileRecord) (p : Pull) → IsFor s t Committing p → (step s (Finish t assembled)).0 ≡ Done (s.last + 1)
  finish-done assembled p st = ap (λ o. answer (finish s t o)) (ticket-found s t Committing p st)

  pub give_up-stray : ((p : Pull) → ¬ (IsFor s t Pulling p)) → (step s (GiveUp t)).0 ≡ Stray
  give_up-stray none = ap (λ o. answer (close_pull s t o)) (no-ticket s t Pulling none)

  pub give_up-closed : (p : Pull) → IsFor s t Pulling p → (step s (GiveUp t)).0 ≡ Closed
  give_up-closed p st = ap (λ o. answer (close_pull s t o)) (ticket-found s t Pulling p st)

  pub abort-stray : ((p : Pull) → ¬ (IsFor s t Committing p)) → (step s (Abort t)).0 ≡ Stray
  abort-stray none = ap (λ o. answer (close_pull s t o)) (no-ticket s t Committing none)

  pub abort-closed : (p : Pull) → IsFor s t Committing p → (step s (Abort t)).0 ≡ Closed
  abort-closed p st = ap (λ o. answer (close_pull s t o)) (ticket-found s t Committing p st)

  module _ (p : Pull) (st : IsFor s t Pulling p) where
    abbrev entered : Answer × FolderState
    entered = (Entered t, with_commit s t.name p)

    abbrev room_test : Bool × Answer
    room_test = (is_sequence_full s, SequenceFull)

    abbrev best_test : Bool × Answer
    best_test = (not (is_still_best s p.target), Superseded)

    abbrev base_test : Bool × Answer
    base_test = (not (same_local_version (local_version s t.name) p.base), LocalMoved)

    past-stray : step s (EnterCommit t) ≡ first_answer s (base_test ∷ best_test ∷ room_test ∷ []) entered
    past-stray = ap (enter_commit s t) (ticket-found s t Pulling p st)

    pub enter-known : (step s (EnterCommit t)).0 ≢ Stray
    enter-known e = by base_test.0 best_test.0 room_test.0 (ap answer (sym past-stray) ∙ e)
      where
        by : (x y z : Bool) → answer (first_answer s ((x, LocalMoved) ∷ (y, Superseded) ∷ (z, SequenceFull) ∷ []) entered) ≡ Stray → ⊥
        by true y z e = true≢false (sym (ap is_stray e))
        by false true z e = true≢false (sym (ap is_stray e))
        by false false true e = true≢false (sym (ap is_stray e))
        by false false false e = true≢false (sym (ap is_stray e))

    pub enter-moved : local_version s t.name ≢ p.base → (step s (EnterCommit t)).0 ≡ LocalMoved
    enter-moved other =
        ap answer (past-stray ∙ holds s base_test (best_test ∷ room_test ∷ []) entered
        (not_from_false _ (false_from_ne_true _ (λ e. other (same_local (local_version s t.name) p.base e)))))

    module _ (same : local_version s t.name ≡ p.base) where
      past-moved-base : step s (EnterCommit t) ≡ first_answer s (best_test ∷ room_test ∷ []) entered
      past-moved-base =
          past-stray ∙ fails s base_test (best_test ∷ room_test ∷ []) entered
          (not_from_true _ (ap (same_local_version (local_version s t.name)) (sym same) ∙ same_local-own (local_version s t.name)))

      pub enter-superseded : ((e : KeyedRecord) → best (entries s.announced) t.target.name ≡ Some e → e.1.version ≡ t.target.version → same_content e.1 t.target ≡ false)
          → (step s (EnterCommit t)).0 ≡ Superseded
      enter-superseded none =
          ap answer (past-moved-base ∙ holds s best_test (room_test ∷ []) entered
          (not_from_false _ (ap (is_still_best s) st.target ∙ by (best (entries s.announced) t.target.name) refl)))
        where
          by : (o : Option KeyedRecord) → best (entries s.announced) t.target.name ≡ o
              → option_map_or (λ b. same_version b.1.version t.target.version && same_content b.1 t.target) o false ≡ false
          by None e = refl
          by (Some b) e = false_from_ne_true _ (λ h.
              let u = and_parts _ _ h in
              true≢false (sym u.1 ∙ none b e ((same_version_tells b.1.version t.target.version).0 u.0)))

      module _ (e : KeyedRecord) (is : best (entries s.announced) t.target.name ≡ Some e) (version : e.1.version ≡ t.target.version) (content : same_content e.1 t.target ≡ true) where
        past-best : step s (EnterCommit t) ≡ first_answer s (room_test ∷ []) entered
        past-best =
            past-moved-base ∙ fails s best_test (room_test ∷ []) entered
            (not_from_true _ (ap (is_still_best s) st.target
            ∙ ap (λ o. option_map_or (λ b. same_version b.1.version t.target.version && same_content b.1 t.target) o false) is
            ∙ and_from _ _ ((same_version_tells e.1.version t.target.version).1 version) content))

        pub enter-sequence : max_sequence - s.last ≤ open_commits s → (step s (EnterCommit t)).0 ≡ SequenceFull
        enter-sequence h = ap answer (past-best ∙ holds s room_test [] entered (le-leb (max_sequence - s.last) (open_commits s) h))

        pub enter-entered : open_commits s < max_sequence - s.last → (step s (EnterCommit t)).0 ≡ Entered t
        enter-entered h = ap answer (past-best ∙ fails s room_test [] entered (lt-leb (max_sequence - s.last) (open_commits s) h))
