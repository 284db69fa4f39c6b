-- What the begin of a pull, the entering of a commit and their ends make of a folder in an index is the step's.
use Rattle.std.proofs.Common.{◌≡◌, ℕ, ◌+◌, ◌-◌, ◌^◌, ◌<◌, Bool, true, false, List, get_or, length, refl, sym, ap, subst, ◌∙◌, arith}
use Rattle.std.specs.Prelude.{All, bytes_eq, ◌||◌, cond, filter, map, nat_le, not, is_ok, is_some, IfOk, IfSome, MatchOption, Option, Some, None, Result, option_and_then, option_map, slice_get, slice_set}
use Rattle.std.specs.FinMap as fin
use Rattle.std.specs.FinMap.{entries, from_sorted, get}
use Rattle.std.specs.FinSet as set
use Rattle.std.specs.FinSet.{contains, contains-insert}
use Rattle.std.specs.List.{insert, remove}
use Rattle.std.specs.Option.{option_map_or}
use Rattle.std.specs.Result.{result_err}
use Rattle.std.proofs.lemmas.Bool.{true≢false}
use Rattle.sync_record.specs.Devices.{Identity}
use Rattle.sync_record.specs.Records.{Name, FileRecord}
use Rattle.folder_core.specs.Announced.{Announced, is_of}
use Rattle.folder_core.specs.Calls.{close_answer}
use Rattle.folder_core.specs.Plain.{IsPlain, IsReady, PullsRise, commits, filed, folder_of, opened, pulls_of, stage_of}
use Rattle.folder_core.specs.PlainPulls.{begin_refusal, begin_tests_of, best_in, entry_refusal, entry_tests_of, is_best_in, position_of, pull_for}
use Rattle.folder_core.specs.PlainReads.{record_from, version_of}
use Rattle.folder_core.specs.PlainScans.{first_of, has_commit}
use Rattle.folder_core.specs.States.{FolderState, IsFolder, is_committing, local, max_sequence, same_stage}
use Rattle.folder_core.specs.Steps.{close_pull, committed_record, finish, is_accepted, least_free, pull_of, step, with_local, without_pull}
use Rattle.folder_core.specs.declared.announcement.Announcement.{Announcement as Entry}
use Rattle.folder_core.specs.declared.answer.Answer.{Answer}
use Rattle.folder_core.specs.declared.answer.Answer.TheVariants.{Begun, Done, Entered, Stray}
use Rattle.folder_core.specs.declared.change.Change.TheVariants.{Abort, BeginPull, EnterCommit, GiveUp}
use Rattle.folder_core.specs.declared.plain.pull.OpenPull.{OpenPull}
use Rattle.folder_core.specs.declared.plain.pulls.BeginObstacle.{BeginObstacle}
use Rattle.folder_core.specs.declared.plain.pulls.EntryObstacle.{EntryObstacle}
use Rattle.folder_core.specs.declared.pull_info.PullInfo.{PullInfo}
use Rattle.folder_core.specs.declared.pull_stage.PullStage.{PullStage}
use Rattle.folder_core.specs.declared.pull_stage.PullStage.TheVariants.{Pulling, Committing}
use Rattle.folder_core.proofs.ChangeFolders.{finished-folder, step-folder}
use Rattle.std.proofs.lemmas.List.{length-map}
use Rattle.std.proofs.lemmas.Option.{slice_get-map, slice_get_read}
use Rattle.folder_core.proofs.ListTests.{alike_bytes, inside}
use Rattle.folder_core.proofs.Orders.{bytes_total}
use Rattle.folder_core.proofs.PlainBegin as begin
use Rattle.folder_core.proofs.PlainEnter as enter
use Rattle.folder_core.proofs.PlainFinish as ends
use Rattle.folder_core.proofs.PlainGroup.{is_named}
use Rattle.folder_core.proofs.PlainOpened.{close-plain, close-step, open-is, pull_for-at, pull_for-name, pull_for-stage, pull_of-plain, removed-pulls, removed-ready, removed-rise}
use Rattle.folder_core.proofs.PullOpen.{pull_of-is}
use Rattle.folder_index.specs.Indexes.{IndexState, Names, with_promise, with_record, without_promise}
use Rattle.folder_index.specs.Locals.{AreEarlier}
use Rattle.folder_db.specs.Indexed.{IsIndexed, folder_with, ready_of}
use Rattle.folder_db.proofs.Listing.{announced-is, es, group-is, plain-is, room}
use Rattle.folder_db.proofs.Reserved.{closed-reserved, commits-listed, commits_at, ended-reserved, insert-commit, set-commit}
use Rattle.folder_db.proofs.Messages.{tied-name}

at-one-stage : (x : PullStage) → same_stage x Pulling ≡ true → same_stage x Committing ≡ false
at-one-stage Pulling e = refl
at-one-stage Committing e = absurd (true≢false (sym e))

-- the pull whose record stands ready
pub of-ready : (o : Option OpenPull) (r : FileRecord) → option_and_then (λ (p : OpenPull). p.ready) o ≡ Some r → (p : OpenPull) × (o ≡ Some p) × (p.ready ≡ Some r)
of-ready None r e = absurd (let h : None ≡ Some r = e in cc)
of-ready (Some p) r e = (p, refl, e)

module _ (s : IndexState) (last : ℕ) (ps : List OpenPull) (copies : List (Option FileRecord)) (is : IsIndexed s last ps copies) where
  abbrev pub state : FolderState
  state = folder_with s last (pulls_of ps)

  abbrev list : List Entry
  list = es s last ps copies is

  abbrev capacity : ℕ
  capacity = room s last ps copies is

  kept : IsPlain s.me list capacity last ps
  kept = plain-is s last ps copies is

  announced : from_sorted (map filed list) ≡ s.announced
  announced = announced-is s.announced is.folder.named

  abbrev with_pulls : Announced → List OpenPull → FolderState
  with_pulls a qs = record { me = s.me; announced = a; last = last; pulls = pulls_of qs }

  has-commit : (n : Name) → contains s.promised n ≡ has_commit n ps
  has-commit n = is.reserved n ∙ commits-listed s.me list capacity last ps kept n

  -- other pulls, and other names that are reserved
  other-pulls : (names : Names) (new : List OpenPull) (copied : List (Option FileRecord)) (roomy : ℕ) → IsPlain s.me list roomy last new → copied ≡ ready_of new
      → ((n : Name) → contains names n ≡ commits_at (pulls_of new) n) → IsIndexed (record s { promised = names }) last new copied
  other-pulls names new copied roomy plain copied-is reserved = record {
    pulls_rise = plain.pulls_rise;
    folder = subst (λ a. IsFolder (with_pulls a new)) announced plain.folder;
    ready = plain.ready;
    copied = copied-is;
    reserved = reserved;
    counted = is.counted;
  }

  -- ---- a pull begins

  module _ (n : Name) (me : Identity) (me-is : me ≡ s.me) (group : List Entry) (there : map filed group ≡ filter (is_of n) (entries s.announced)) (base : Option FileRecord) (based : base ≡ record_from me group)
      (qs : List OpenPull) (qs-is : qs ≡ ps) (busy : Bool) (busy-is : busy ≡ begin.is_open n qs) where
    found : group ≡ filter (is_named n) list
    found = group-is s.announced is.folder.named n group there

    own : base ≡ local (folder_of s.me list last (pulls_of ps)) n
    own = begin.own-is s.me list capacity last ps kept n group found base (based ∙ ap (λ d. record_from d group) me-is)

    abbrev tests : List (Bool × Answer)
    tests = begin_tests_of busy base (best_in group)

    tests-are : tests ≡ begin.tests_with s.me list capacity last ps kept n (best_in (filter (is_named n) list))
    tests-are = begin.tests-are s.me list capacity last ps kept n group base busy found own (busy-is ∙ ap (begin.is_open n) qs-is)

    pub begin-refused : (o : BeginObstacle) → Some (begin_refusal o) ≡ first_of tests → step state (BeginPull n) ≡ (begin_refusal o, state)
    begin-refused o told =
        subst (λ a. step (with_pulls a ps) (BeginPull n) ≡ (begin_refusal o, with_pulls a ps)) announced
        (begin.begin-refused s.me list capacity last ps kept n o (told ∙ ap first_of tests-are))

    pub begin-accepted : {A : Type 0} (f : A → Entry) (r : Result A BeginObstacle) → IfOk r (λ b. best_in group ≡ Some (f b)) → option_map begin_refusal (result_err r) ≡ first_of tests → is_ok r ≡ is_accepted (step state (BeginPull n)).0
    begin-accepted f r best told =
        subst (λ a. is_ok r ≡ is_accepted (step (with_pulls a ps) (BeginPull n)).0) announced
        (begin.begin-accepted s.me list capacity last ps kept n f r (subst (λ g. IfOk r (λ b. best_in g ≡ Some (f b))) found best) (told ∙ ap first_of tests-are))

    module _ (b : Entry) (some : best_in group ≡ Some b) (told : None ≡ first_of tests) where
      chosen : best_in (filter (is_named n) list) ≡ Some b
      chosen = ap best_in (sym found) ∙ some

      told-so : None ≡ first_of (begin.tests_with s.me list capacity last ps kept n (best_in (filter (is_named n) list)))
      told-so = told ∙ ap first_of tests-are

      pub begin-is_accepted : is_accepted (step state (BeginPull n)).0 ≡ true
      begin-is_accepted =
          subst (λ a. is_accepted (step (with_pulls a ps) (BeginPull n)).0 ≡ true) announced
          (begin.begin-is_accepted s.me list capacity last ps kept n b chosen told-so)

      abbrev pub opened_pull : OpenPull
      opened_pull = record { number = least_free (map (λ p. p.number) ps); base = base; target = b.record; ready = None }

      abbrev pub ticket : PullInfo
      ticket = record { number = least_free (map (λ p. p.number) ps); name = n; base = base; target = b.record }

      module _ (new : List OpenPull) (put : new ≡ insert ps (position_of b.record.name ps) opened_pull) where
        pub begin-begun : (t : PullInfo) → t ≡ ticket → step state (BeginPull n) ≡ (Begun t, folder_with s last (pulls_of new))
        begin-begun t same =
            subst (λ a. step (with_pulls a ps) (BeginPull n) ≡ (Begun t, with_pulls a new)) announced
            (begin.begin-begun s.me list capacity last ps kept n b chosen told-so base own new put t same)

        begun-plain : IsPlain s.me list capacity last new
        begun-plain = begin.begin-plain s.me list capacity last ps kept n b chosen told-so base own new put

        pub begin-indexed : (copied : List (Option FileRecord)) → copied ≡ ready_of new → IsIndexed s last new copied
        begin-indexed copied copied-is =
            other-pulls s.promised new copied capacity begun-plain copied-is (λ m.
            has-commit m
            ∙ sym (insert-commit m ps (position_of b.record.name ps) opened_pull refl)
            ∙ ap (has_commit m) (sym put)
            ∙ sym (commits-listed s.me list capacity last new begun-plain m))

  -- ---- a pull is closed

  module _ (t : PullInfo) (stage : PullStage) (new : List OpenPull) (r : Option OpenPull) (taken : MatchOption r ((pull_for t stage ps ≡ None) × (new ≡ ps)) (λ p. (pull_for t stage ps ≡ Some p) × (new ≡ remove ps (position_of t.name ps)))) where
    pub closed-step : close_pull state t (pull_of state t stage) ≡ (close_answer (is_some r), folder_with s last (pulls_of new))
    closed-step =
        subst (λ a. close_pull (with_pulls a ps) t (pull_of (with_pulls a ps) t stage) ≡ (close_answer (is_some r), with_pulls a new)) announced
        (close-step s.me list capacity last ps new kept t stage r taken)

  closed-plain : (t : PullInfo) (stage : PullStage) (new : List OpenPull) (r : Option OpenPull) → MatchOption r ((pull_for t stage ps ≡ None) × (new ≡ ps)) (λ p. (pull_for t stage ps ≡ Some p) × (new ≡ remove ps (position_of t.name ps)))
      → IsFolder (close_pull state t (pull_of state t stage)).1 → IsPlain s.me list capacity last new
  closed-plain t stage new r taken folder =
      close-plain s.me list capacity last ps new kept t stage r taken
      (subst (λ a. IsFolder (close_pull (with_pulls a ps) t (pull_of (with_pulls a ps) t stage)).1) (sym announced) folder)

  -- the open pull that was found
  module _ (t : PullInfo) (stage : PullStage) (p : OpenPull) (found : pull_for t stage ps ≡ Some p) where
    pub found-pull : pull_of state t stage ≡ Some (opened p)
    found-pull =
        subst (λ a. pull_of (with_pulls a ps) t stage ≡ Some (opened p)) announced
        (pull_of-plain t stage s.me list last ps is.pulls_rise ∙ ap (option_map opened) found)

    found-open : (get (pulls_of ps) t.name ≡ Some (opened p)) × (same_stage (opened p).stage stage ≡ true)
    found-open = pull_of-is state t stage (opened p) found-pull

    removed-is : pulls_of (remove ps (position_of t.name ps)) ≡ fin.remove (pulls_of ps) t.name
    removed-is = removed-pulls t.name ps is.pulls_rise p (pull_for-at t stage ps p found) (pull_for-name t stage ps p found)

  given_up : (t : PullInfo) (new : List OpenPull) (r : Option OpenPull) → MatchOption r ((pull_for t Pulling ps ≡ None) × (new ≡ ps)) (λ p. (pull_for t Pulling ps ≡ Some p) × (new ≡ remove ps (position_of t.name ps)))
      → (n : Name) → contains s.promised n ≡ commits_at (pulls_of new) n
  given_up t new None taken n = is.reserved n ∙ ap (λ qs. commits_at (pulls_of qs) n) (sym taken.1)
  given_up t new (Some p) taken n =
      let open_pull = found-open t Pulling p taken.0 in
      closed-reserved s.promised (pulls_of ps) t.name is.reserved
      (ap (λ o. option_map_or is_committing o false) open_pull.0 ∙ at-one-stage (opened p).stage open_pull.1) n
      ∙ ap (λ m. commits_at m n) (sym (ap pulls_of taken.1 ∙ removed-is t Pulling p taken.0))

  pub give_up-indexed : (t : PullInfo) (new : List OpenPull) (copied : List (Option FileRecord)) (r : Option OpenPull) → MatchOption r ((pull_for t Pulling ps ≡ None) × (new ≡ ps)) (λ p. (pull_for t Pulling ps ≡ Some p) × (new ≡ remove ps (position_of t.name ps)))
      → copied ≡ ready_of new → IsIndexed s last new copied
  give_up-indexed t new copied r taken copied-is =
      other-pulls s.promised new copied capacity (closed-plain t Pulling new r taken (step-folder state (GiveUp t) is.folder tt)) copied-is (given_up t new r taken)

  -- a commit that is stray changes nothing
  pub stray-indexed : (new : List OpenPull) (copied : List (Option FileRecord)) → new ≡ ps → copied ≡ ready_of new → IsIndexed s last new copied
  stray-indexed new copied same copied-is = subst (λ c. IsIndexed s last new c) (is.copied ∙ sym (copied-is ∙ ap ready_of same)) (subst (λ qs. IsIndexed s last qs copies) (sym same) is)

  module _ (t : PullInfo) (new : List OpenPull) (copied : List (Option FileRecord)) (copied-is : copied ≡ ready_of new) (p : OpenPull) (found : pull_for t Committing ps ≡ Some p) (left : new ≡ remove ps (position_of t.name ps)) where
    left-pulls : pulls_of new ≡ fin.remove (pulls_of ps) t.name
    left-pulls = ap pulls_of left ∙ removed-is t Committing p found

    left-reserved : (n : Name) → contains (set.remove s.promised t.name) n ≡ commits_at (pulls_of new) n
    left-reserved n = ended-reserved s.promised (pulls_of ps) t.name is.reserved n ∙ ap (λ m. commits_at m n) (sym left-pulls)

    pub abort-indexed : IsIndexed (without_promise t.name s) last new copied
    abort-indexed =
        other-pulls (set.remove s.promised t.name) new copied capacity
        (closed-plain t Committing new (Some p) (found, left) (step-folder state (Abort t) is.folder tt)) copied-is left-reserved

    -- ---- a commit ends

    module _ (r : FileRecord) (ready : p.ready ≡ Some r) where
      ready-is : r ≡ committed_record (opened p).base p.target
      ready-is = ends.ready-at ps (position_of t.name ps) p is.ready (pull_for-at t Committing ps p found) r ready

      open_pull : (get (pulls_of ps) t.name ≡ Some (opened p)) × (same_stage (opened p).stage Committing ≡ true)
      open_pull = found-open t Committing p found

      here : r.name ≡ t.name
      here = ap (λ (x : FileRecord). x.name) ready-is ∙ pull_for-name t Committing ps p found

      pub finish-reserved : contains s.promised r.name ≡ true
      finish-reserved = ap (contains s.promised) here ∙ is.reserved t.name ∙ ap (λ o. option_map_or is_committing o false) open_pull.0 ∙ open_pull.1

      pub finish-fits : last + 1 < 2 ^ 63
      finish-fits = ends.finish-number s.me list capacity last ps new kept t r (ap (option_and_then (λ (q : OpenPull). q.ready)) found ∙ ready) left

      module _ (numbered : FileRecord) (numbered-is : numbered ≡ record r { sequence = last + 1 }) where
        finished-is : folder_with (with_record s.me numbered s) (last + 1) (pulls_of new) ≡ without_pull (with_local state (committed_record (opened p).base p.target)) t.name
        finished-is =
            (λ i. folder_with (with_record s.me (numbered-is i) s) (last + 1) (left-pulls i))
            ∙ ap (λ q. without_pull (with_local state q) t.name) ready-is

        pub finish-step : finish state t (pull_of state t Committing) ≡ (Done (last + 1), folder_with (with_record s.me numbered s) (last + 1) (pulls_of new))
        finish-step = ap (finish state t) (found-pull t Committing p found) ∙ ap (λ x. (Done (last + 1), x)) (sym finished-is)

        pub finish-earlier : AreEarlier s numbered.sequence
        finish-earlier n q there = let range = is.folder.numbered.in_range n q there in let next = ap (λ (x : FileRecord). x.sequence) numbered-is in omega arith

        left-promised : (with_record s.me numbered s).promised ≡ set.remove s.promised t.name
        left-promised =
            ap (λ b. cond b (set.remove s.promised numbered.name) s.promised) (alike_bytes s.me s.me refl)
            ∙ ap (set.remove s.promised) (ap (λ (x : FileRecord). x.name) numbered-is ∙ here)

        pub finish-indexed : IsIndexed (with_record s.me numbered s) (last + 1) new copied
        finish-indexed =
            let target = is.folder.targets t.name (opened p) open_pull.0 in
            record {
              pulls_rise = subst PullsRise (sym left) (removed-rise t.name ps is.pulls_rise p (pull_for-at t Committing ps p found) (pull_for-name t Committing ps p found));
              folder = subst IsFolder (sym finished-is) (finished-folder state is.folder (committed_record (opened p).base p.target) target.1 t.name (opened p) open_pull.0 open_pull.1 target.0);
              ready = subst (All IsReady) (sym left) (removed-ready ps (position_of t.name ps) is.ready);
              copied = copied-is;
              reserved = λ n. ap (λ names. contains names n) left-promised ∙ left-reserved n;
              counted = omega arith;
            }

  pub finish-stray : (t : PullInfo) (new : List OpenPull) → pull_for t Committing ps ≡ None → new ≡ ps → finish state t (pull_of state t Committing) ≡ (Stray, folder_with s last (pulls_of new))
  finish-stray t new none same =
      subst (λ a. finish (with_pulls a ps) t (pull_of (with_pulls a ps) t Committing) ≡ (Stray, with_pulls a new)) announced
      (ends.finish-stray s.me list capacity last ps new kept t none same)

  -- ---- a commit is entered

  module _ (t : PullInfo) where
    pub enter-stray : pull_for t Pulling ps ≡ None → step state (EnterCommit t) ≡ (Stray, state)
    enter-stray none =
        subst (λ a. step (with_pulls a ps) (EnterCommit t) ≡ (Stray, with_pulls a ps)) announced
        (enter.enter-stray s.me list capacity last ps kept t none)

    pub enter-at : (xs : List OpenPull) → xs ≡ ps → (i : ℕ) → i < length xs → slice_get xs i ≡ pull_for t Pulling xs → (p : OpenPull) → p ≡ get_or ps i p → pull_for t Pulling ps ≡ Some p
    enter-at = enter.enter-at s.me list capacity last ps kept t

    module _ (p : OpenPull) (at : pull_for t Pulling ps ≡ Some p) (me : Identity) (me-is : me ≡ s.me) (group : List Entry) (there : map filed group ≡ filter (is_of t.name) (entries s.announced))
        (base : Option FileRecord) (based : base ≡ record_from me group) (full : Bool) (full-is : full ≡ nat_le (max_sequence - last) (commits ps)) (first : Option EntryObstacle)
        (told : option_map entry_refusal first ≡ first_of (entry_tests_of p base (is_best_in group p.target) full)) where
      group-found : group ≡ filter (is_named t.name) list
      group-found = group-is s.announced is.folder.named t.name group there

      base-own : base ≡ local (folder_of s.me list last (pulls_of ps)) t.name
      base-own = begin.own-is s.me list capacity last ps kept t.name group group-found base (based ∙ ap (λ d. record_from d group) me-is)

      entry-told : option_map entry_refusal first ≡ first_of (enter.tests s.me list capacity last ps kept t p at)
      entry-told = told ∙ ap first_of (enter.tests-are s.me list capacity last ps kept t p at group base full group-found base-own full-is)

      pub enter-refused : (o : EntryObstacle) → first ≡ Some o → step state (EnterCommit t) ≡ (entry_refusal o, state)
      enter-refused o some =
          subst (λ a. step (with_pulls a ps) (EnterCommit t) ≡ (entry_refusal o, with_pulls a ps)) announced
          (enter.enter-refused s.me list capacity last ps kept t p at first entry-told o some)

      pub enter-accepted : (b : Bool) → is_some first ≡ not b → b ≡ is_accepted (step state (EnterCommit t)).0
      enter-accepted b none =
          subst (λ a. b ≡ is_accepted (step (with_pulls a ps) (EnterCommit t)).0) announced
          (enter.enter-accepted s.me list capacity last ps kept t p at first entry-told b none)

      module _ (none : first ≡ None) where
        pub enter-is_accepted : is_accepted (step state (EnterCommit t)).0 ≡ true
        enter-is_accepted =
            subst (λ a. is_accepted (step (with_pulls a ps) (EnterCommit t)).0 ≡ true) announced
            (enter.enter-is_accepted s.me list capacity last ps kept t p at first entry-told none)

        abbrev ready_pull : OpenPull
        ready_pull = record p { ready = Some (committed_record (version_of p.base) p.target) }

        -- what was set at the place that was found
        module _ (xs new : List OpenPull) (xs-is : xs ≡ ps) (i : ℕ) (place : i ≡ position_of t.name xs) (put : IfSome (slice_get xs i) (λ q. new ≡ slice_set xs i (record q { ready = Some (committed_record (version_of q.base) q.target) })))
            (names : IndexState) (promised : IfSome (slice_get xs i) (λ q. names ≡ with_promise q.target.name s)) (copied : List (Option FileRecord)) (copied-is : copied ≡ ready_of new) where
          set-there : new ≡ slice_set ps (position_of t.name ps) ready_pull
          set-there = enter.enter-set s.me list capacity last ps kept t p at first entry-told none xs new xs-is i place put

          found-there : slice_get xs i ≡ Some p
          found-there = (λ k. slice_get (xs-is k) ((place ∙ ap (position_of t.name) xs-is) k)) ∙ pull_for-at t Pulling ps p at

          names-are : names ≡ with_promise t.name s
          names-are = subst (λ o. IfSome o (λ q. names ≡ with_promise q.target.name s)) found-there promised ∙ ap (λ n. with_promise n s) (pull_for-name t Pulling ps p at)

          pub enter-step : step state (EnterCommit t) ≡ (Entered t, folder_with names last (pulls_of new))
          enter-step =
              subst (λ a. step (with_pulls a ps) (EnterCommit t) ≡ (Entered t, with_pulls a new)) announced
              (enter.enter-step s.me list capacity last ps kept t p at first entry-told none new set-there)
              ∙ ap (λ x. (Entered t, folder_with x last (pulls_of new))) (sym names-are)

          pub enter-counted : names.choices ≡ s.choices
          enter-counted = ap (λ (x : IndexState). x.choices) names-are

          entered-plain : IsPlain s.me list (length list + (commits ps + 1)) last new
          entered-plain = enter.enter-plain s.me list capacity last ps kept t p at first entry-told none new set-there list (length list + (commits ps + 1)) refl (omega arith)

          pub enter-indexed : IsIndexed names last new copied
          enter-indexed =
              subst (λ x. IsIndexed x last new copied) (sym names-are)
              (other-pulls (set.insert s.promised t.name) new copied (length list + (commits ps + 1)) entered-plain copied-is (λ m.
              contains-insert bytes_total s.promised t.name m
              ∙ (λ k. tied-name m t.name k || has-commit m k)
              ∙ ap (λ n. bytes_eq n m || has_commit m ps) (sym (pull_for-name t Pulling ps p at))
              ∙ sym (set-commit m ps (position_of t.name ps) ready_pull p (pull_for-at t Pulling ps p at) refl refl)
              ∙ ap (has_commit m) (sym set-there)
              ∙ sym (commits-listed s.me list (length list + (commits ps + 1)) last new entered-plain m)))

  -- ---- whether a pull is open

  pub has-open : (t : PullInfo) (stage : PullStage) (xs : List OpenPull) → xs ≡ ps → (place : Option ℕ) → IfSome place (λ i. i < length xs) → option_and_then (slice_get xs) place ≡ pull_for t stage xs → is_some place ≡ is_some (pull_of state t stage)
  has-open t stage xs same place within found =
      subst (λ a. is_some place ≡ is_some (pull_of (with_pulls a ps) t stage)) announced
      (open-is t stage s.me list last ps xs is.pulls_rise same place within found)

-- ---- what is taken out of the lists of pulls

pub pull-at : (t : PullInfo) (stage : PullStage) (ps : List OpenPull) (i : ℕ) (p : OpenPull) → i < length ps → slice_get ps i ≡ pull_for t stage ps → p ≡ get_or ps i p → pull_for t stage ps ≡ Some p
pull-at t stage ps i p below found is = sym found ∙ slice_get_read ps (length ps) i p refl below is

module _ (t : PullInfo) (ps : List OpenPull) (copies : List (Option FileRecord)) (are : copies ≡ ready_of ps) (i : ℕ) (p : OpenPull) (copy : Option FileRecord) (below : i < length ps) (found : slice_get ps i ≡ pull_for t Committing ps) (is : p ≡ get_or ps i p) (copy-is : copy ≡ get_or copies i copy) where
  committing : pull_for t Committing ps ≡ Some p
  committing = pull-at t Committing ps i p below found is

  pub copy-ready : copy ≡ p.ready
  copy-ready =
      inside copy p.ready
      (sym (slice_get_read copies (length copies) i copy refl (let n = ap length are ∙ length-map ps (λ (q : OpenPull). q.ready) in omega arith) copy-is)
      ∙ ap (λ xs. slice_get xs i) are
      ∙ slice_get-map (λ (q : OpenPull). q.ready) ps i
      ∙ ap (option_map (λ (q : OpenPull). q.ready)) (found ∙ committing))

  pub some-ready : p.ready ≡ None → ⊥
  some-ready none = true≢false (sym (pull_for-stage t Committing ps p committing) ∙ ap (λ o. same_stage (stage_of o) Committing) none)

  pub ready-found : (r : FileRecord) → p.ready ≡ Some r → option_and_then (λ (q : OpenPull). q.ready) (pull_for t Committing ps) ≡ Some r
  ready-found r some = ap (option_and_then (λ (q : OpenPull). q.ready)) committing ∙ some
