-- What the entering of a commit makes of a plain folder is the rules' step.
use Rattle.std.proofs.Common.{◌≡◌, ℕ, zero, suc, ◌+◌, ◌-◌, ◌<◌, ◌≤◌, Bool, true, false, List, [], ◌∷◌, get_or, length, refl, sym, ap, subst, ◌∙◌, arith}
use Rattle.std.specs.Prelude.{All, IfSome, OnErr, OnOk, Result, Ok, Err, cond, is_err, is_some, nat_le, not, ◌&&◌, Option, Some, None, filter, map, option_map, slice_get, slice_set}
use Rattle.std.specs.Bool.{passes}
use Rattle.std.specs.FinMap as fin
use Rattle.std.specs.FinMap.{entries-from_sorted, from_sorted, is_sorted}
use Rattle.std.specs.FinMap.Entries.{is_sorted-put}
use Rattle.std.specs.Option.{option_map_or}
use Rattle.std.proofs.lemmas.Bool.{true≢false}
use Rattle.std.proofs.lemmas.Option.{slice_get_read}
use Rattle.sync_record.specs.Contents.{same_content}
use Rattle.sync_record.specs.Devices.{Identity, bytes_cmp}
use Rattle.sync_record.specs.Records.{FileRecord}
use Rattle.sync_version.specs.Computed.{same_version}
use Rattle.folder_core.specs.declared.announcement.Announcement.{Announcement as Entry}
use Rattle.folder_core.specs.declared.plain.pull.OpenPull.{OpenPull}
use Rattle.folder_core.specs.declared.plain.pulls.EntryObstacle.{EntryObstacle}
use Rattle.folder_core.specs.declared.plain.pulls.EntryObstacle.TheVariants as entry
use Rattle.folder_core.specs.declared.pull_stage.PullStage.TheVariants.{Pulling}
use Rattle.folder_core.specs.Announced.{best, key_cmp}
use Rattle.folder_core.specs.Plain.{IsPlain, IsReady, Rises, commits, filed, folder_of, opened, pulled, pulls_of}
use Rattle.folder_core.specs.PlainPulls.{best_in, entry_refusal, entry_tests_of, is_best_in, position_of, pull_for}
use Rattle.folder_core.specs.PlainReads.{version_of}
use Rattle.folder_core.specs.PlainScans.{first_of}
use Rattle.folder_core.specs.States.{FolderState, IsFolder, local, max_sequence}
use Rattle.folder_core.specs.declared.answer.Answer.{Answer}
use Rattle.folder_core.specs.declared.answer.Answer.TheVariants.{Entered, Stray}
use Rattle.folder_core.specs.declared.change.Change.TheVariants.{EnterCommit}
use Rattle.folder_core.specs.declared.pull_info.PullInfo.{PullInfo}
use Rattle.folder_core.specs.Steps.{committed_record, enter_commit, first_answer, is_accepted, is_still_best, step, with_commit}
use Rattle.folder_core.proofs.ChangeFolders.{step-folder}
use Rattle.folder_core.proofs.ListTests.{inside}
use Rattle.folder_core.proofs.Orders.{bytes_total, exact_names, insert_listed, is_true}
use Rattle.folder_core.proofs.PlainFound.{best_is}
use Rattle.folder_core.proofs.PlainGroup.{is_named}
use Rattle.folder_core.proofs.PlainOpen.{set-there}
use Rattle.folder_core.proofs.PlainOpened.{commits-cons, one, pull_for-at, pull_for-name, pull_of-plain}
use Rattle.folder_core.proofs.PlainPulls.{commits-open}
use Rattle.folder_core.proofs.PlainTests.{accepted-answer, first-none, first-some}

-- ---- a pull is set in the place of another

one_at_most : (p : OpenPull) → one p ≤ 1
one_at_most p = elim (is_some p.ready) as (λ b. cond b 1 0 ≤ 1) [ true ↦ omega arith | false ↦ omega arith ]

pub set-commits : (ps : List OpenPull) (i : ℕ) (p : OpenPull) → commits (slice_set ps i p) ≤ commits ps + 1
set-commits [] zero p = omega arith
set-commits [] (suc i) p = omega arith
set-commits (q ∷ ps) zero p = let a = commits-cons q ps in let b = commits-cons p ps in let c = one_at_most p in omega arith
set-commits (q ∷ ps) (suc i) p =
    let a = commits-cons q ps in
    let b = commits-cons q (slice_set ps i p) in
    let c = set-commits ps i p in
    omega arith

pub set-ready : (ps : List OpenPull) (i : ℕ) (p : OpenPull) → IsReady p → All IsReady ps → All IsReady (slice_set ps i p)
set-ready [] zero p here each = each
set-ready [] (suc i) p here each = each
set-ready (q ∷ ps) zero p here each = first here each
  where
    first : IsReady p → All IsReady (q ∷ ps) → All IsReady (p ∷ ps)
    first here each zero d below = here
    first here each (suc k) d below = each (suc k) d (omega arith)
set-ready (q ∷ ps) (suc i) p here each = next (each 0 q (omega arith)) (set-ready ps i p here (λ k d l. each (suc k) d (omega arith)))
  where
    next : IsReady q → All IsReady (slice_set ps i p) → All IsReady (q ∷ slice_set ps i p)
    next now rest zero d below = now
    next now rest (suc k) d below = rest k d (omega arith)

pub ok_from : {A E : Type 0} {P : Type 0} (r : Result A E) → is_err r ≡ false → OnOk r P → P
ok_from (Ok x) e h = h
ok_from (Err x) e h = absurd (true≢false e)

pub err_from : {A E : Type 0} {P : Type 0} (r : Result A E) → is_err r ≡ true → OnErr r P → P
err_from (Ok x) e h = absurd (true≢false (sym e))
err_from (Err x) e h = h

-- an obstacle is no answer that is accepted
entry-refused : (o : EntryObstacle) → is_accepted (entry_refusal o) ≡ false
entry-refused entry.LocalMoved = refl
entry-refused entry.Superseded = refl
entry-refused entry.SequenceFull = refl

-- ---- the commit is entered

module _ (me : Identity) (es : List Entry) (capacity last : ℕ) (ps : List OpenPull) (old : IsPlain me es capacity last ps) (t : PullInfo) where
  abbrev pub folder : FolderState
  folder = folder_of me es last (pulls_of ps)

  pub enter-stray : pull_for t Pulling ps ≡ None → step folder (EnterCommit t) ≡ (Stray, folder)
  enter-stray none = ap (enter_commit folder t) (pull_of-plain t Pulling me es last ps old.pulls_rise ∙ ap (option_map opened) none)

  abbrev pub group : List Entry
  group = filter (is_named t.name) es

  filed_best : (b : Option Entry) (r : FileRecord) → option_map_or (λ b. same_version b.1.version r.version && same_content b.1 r) (option_map filed b) false ≡ option_map_or (λ b. same_version b.record.version r.version && same_content b.record r) b false
  filed_best None r = refl
  filed_best (Some b) r = refl

  -- the pull at the place that was found
  pub enter-at : (xs : List OpenPull) → xs ≡ ps → (i : ℕ) → i < length xs → slice_get xs i ≡ pull_for t Pulling xs → (p : OpenPull) → p ≡ get_or ps i p → pull_for t Pulling ps ≡ Some p
  enter-at xs same i below found p is =
      sym (subst (λ ys. slice_get ys i ≡ pull_for t Pulling ys) same found)
      ∙ slice_get_read ps (length ps) i p refl (subst (λ ys. i < length ys) same below) is

  module _ (p : OpenPull) (is : pull_for t Pulling ps ≡ Some p) where
    here : p.target.name ≡ t.name
    here = pull_for-name t Pulling ps p is

    best-still : is_best_in group p.target ≡ is_still_best folder p.target
    best-still =
        sym ((λ i. option_map_or (λ b. same_version b.1.version p.target.version && same_content b.1 p.target) (best (entries-from_sorted key_cmp (map filed es) (passes _ old.rises) i) (here i)) false)
        ∙ ap (λ o. option_map_or (λ b. same_version b.1.version p.target.version && same_content b.1 p.target) o false) (best_is t.name es old.rises)
        ∙ filed_best (best_in group) p.target)

    abbrev pub tests : List (Bool × Answer)
    tests = entry_tests_of p (local folder t.name) (is_best_in group p.target) (nat_le (max_sequence - last) (commits ps))

    abbrev pub entered : Answer × FolderState
    entered = (Entered t, with_commit folder t.name (opened p))

    enter-tested : step folder (EnterCommit t) ≡ first_answer folder tests entered
    enter-tested =
        ap (enter_commit folder t) (pull_of-plain t Pulling me es last ps old.pulls_rise ∙ ap (option_map opened) is)
        ∙ (λ i. first_answer folder (entry_tests_of p (local folder t.name) (sym best-still i) (nat_le (max_sequence - last) (commits-open me es last ps old.pulls_rise i))) entered)

    -- the tests, from what the code has at hand
    pub tests-are : (found : List Entry) (own : Option FileRecord) (full : Bool) → found ≡ group → own ≡ local folder t.name → full ≡ nat_le (max_sequence - last) (commits ps)
        → entry_tests_of p own (is_best_in found p.target) full ≡ tests
    tests-are found own full g o f = (λ i. entry_tests_of p (o i) (is_best_in (g i) p.target) (f i))

    module _ (first : Option EntryObstacle) (told : option_map entry_refusal first ≡ first_of tests) where
      pub enter-refused : (o : EntryObstacle) → first ≡ Some o → step folder (EnterCommit t) ≡ (entry_refusal o, folder)
      enter-refused o some = enter-tested ∙ first-some folder tests entered (entry_refusal o) (sym (ap (option_map entry_refusal) some) ∙ told)

      enter-entered : first ≡ None → step folder (EnterCommit t) ≡ entered
      enter-entered none = enter-tested ∙ first-none folder tests entered (sym (ap (option_map entry_refusal) none) ∙ told)

      pub enter-is_accepted : first ≡ None → is_accepted (step folder (EnterCommit t)).0 ≡ true
      enter-is_accepted none = ap (λ (d : Answer × FolderState). is_accepted d.0) (enter-entered none)

      pub enter-accepted : (b : Bool) → is_some first ≡ not b → b ≡ is_accepted (step folder (EnterCommit t)).0
      enter-accepted b some =
          accepted-answer entry_refusal first b (step folder (EnterCommit t)) some entry-refused
          (λ o so. ap (λ (d : Answer × FolderState). d.0) (enter-refused o so))
          enter-is_accepted

      module _ (none : first ≡ None) where
        abbrev pub ready_pull : OpenPull
        ready_pull = record p { ready = Some (committed_record (version_of p.base) p.target) }

        pub enter-set : (xs new : List OpenPull) → xs ≡ ps → (i : ℕ) → i ≡ position_of t.name xs
            → IfSome (slice_get xs i) (λ q. new ≡ slice_set xs i (record q { ready = Some (committed_record (version_of q.base) q.target) })) → new ≡ slice_set ps (position_of t.name ps) ready_pull
        enter-set xs new same i place set =
            let there : IfSome (slice_get ps i) (λ q. new ≡ slice_set ps i (record q { ready = Some (committed_record (version_of q.base) q.target) })) =
            subst (λ ys. IfSome (slice_get ys i) (λ q. new ≡ slice_set ys i (record q { ready = Some (committed_record (version_of q.base) q.target) }))) same set in
            let at : IfSome (slice_get ps (position_of t.name ps)) (λ q. new ≡ slice_set ps (position_of t.name ps) (record q { ready = Some (committed_record (version_of q.base) q.target) })) =
            subst (λ j. IfSome (slice_get ps j) (λ q. new ≡ slice_set ps j (record q { ready = Some (committed_record (version_of q.base) q.target) }))) (place ∙ ap (position_of t.name) same) there in
            subst (λ o. IfSome o (λ q. new ≡ slice_set ps (position_of t.name ps) (record q { ready = Some (committed_record (version_of q.base) q.target) }))) (pull_for-at t Pulling ps p is) at

        module _ (new : List OpenPull) (set : new ≡ slice_set ps (position_of t.name ps) ready_pull) where
          put_there : map pulled new ≡ fin.put bytes_cmp t.name (opened ready_pull) (map pulled ps)
          put_there = ap (map pulled) set ∙ set-there bytes_total exact_names pulled t.name ready_pull p ps here (pull_for-at t Pulling ps p is) here

          new_pulls : pulls_of new ≡ fin.insert (pulls_of ps) t.name (opened ready_pull)
          new_pulls = ap from_sorted put_there ∙ sym (insert_listed bytes_total exact_names (map pulled ps) t.name (opened ready_pull) old.pulls_rise)

          pub enter-step : step folder (EnterCommit t) ≡ (Entered t, folder_of me es last (pulls_of new))
          enter-step = enter-entered none ∙ ap (λ xs. (Entered t, folder_of me es last xs)) (sym new_pulls)

          pub enter-plain : (xs : List Entry) (roomy : ℕ) → xs ≡ es → length xs + (commits ps + 1) ≤ roomy → IsPlain me xs roomy last new
          enter-plain xs roomy same room = record {
            rises = subst Rises (sym same) old.rises;
            pulls_rise = ap (is_sorted bytes_cmp) put_there ∙ is_true _ (is_sorted-put bytes_cmp bytes_total t.name (opened ready_pull) (map pulled ps) (passes _ old.pulls_rise));
            folder = subst (λ ys. IsFolder (folder_of me ys last (pulls_of new))) (sym same) (subst IsFolder (ap (λ (d : Answer × FolderState). d.1) enter-step) (step-folder folder (EnterCommit t) old.folder tt));
            ready = subst (All IsReady) (sym set) (set-ready ps (position_of t.name ps) ready_pull (λ r e. sym (inside _ r e)) old.ready);
            room = let a = ap commits set in let b = set-commits ps (position_of t.name ps) ready_pull in omega arith;
          }
