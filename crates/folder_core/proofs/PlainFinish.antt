-- What the end of a commit makes of a plain folder is the rules' step.
use Rattle.std.proofs.Common.{◌≡◌, ℕ, ◌+◌, ◌^◌, ◌<◌, ◌≤◌, List, length, refl, sym, ap, subst, ◌∙◌, arith}
use Rattle.std.specs.Prelude.{All, cond, is_some, MatchOption, Option, Some, None, map, option_and_then, option_map, slice_get}
use Rattle.std.specs.Bool.{passes}
use Rattle.std.specs.FinMap as fin
use Rattle.std.specs.FinMap.{from_sorted, is_sorted, put}
use Rattle.std.specs.FinMap.Entries.{is_sorted-put}
use Rattle.std.specs.List.{remove}
use Rattle.std.proofs.lemmas.Bool.{true≢false}
use Rattle.std.proofs.lemmas.Option.{get_or_from_slice_get, slice_get_within}
use Rattle.sync_record.specs.Devices.{Identity}
use Rattle.sync_record.specs.Records.{FileRecord}
use Rattle.folder_core.specs.declared.announcement.Announcement.{Announcement as Entry}
use Rattle.folder_core.specs.declared.plain.pull.OpenPull.{OpenPull}
use Rattle.folder_core.specs.declared.pull_stage.PullStage.TheVariants.{Committing}
use Rattle.folder_core.specs.Announced.{key, key_cmp}
use Rattle.folder_core.specs.Plain.{IsPlain, IsReady, PullsRise, commits, filed, folder_of, opened, pulls_of, stage_of}
use Rattle.folder_core.specs.PlainPulls.{position_of, pull_for}
use Rattle.folder_core.specs.States.{FolderState, IsFolder, Pull, same_stage}
use Rattle.folder_core.specs.declared.answer.Answer.TheVariants.{Done, Stray}
use Rattle.folder_core.specs.declared.pull_info.PullInfo.{PullInfo}
use Rattle.folder_core.specs.Steps.{close_pull, committed_record, finish, is_accepted, pull_of, with_local, without_pull}
use Rattle.folder_core.proofs.ChangeFolders.{finished-folder}
use Rattle.folder_core.proofs.Orders.{exact_keys, insert_listed, is_true, keys_total}
use Rattle.folder_core.proofs.PlainOpened.{one, pull_for-at, pull_for-name, pull_for-stage, pull_of-plain, removed-commits, removed-pulls, removed-ready, removed-rise}
use Rattle.folder_core.proofs.PlainPulls.{commits-open}
use Rattle.folder_core.proofs.PullOpen.{pull_of-is}

-- ---- what was ready

module _ (t : PullInfo) (ps new : List OpenPull) where
  abbrev pub ReadyTaken : Option FileRecord → Type 0
  ReadyTaken o =
      MatchOption o ((pull_for t Committing ps ≡ None) × (new ≡ ps))
      (λ r. (option_and_then (λ p. p.ready) (pull_for t Committing ps) ≡ Some r) × (new ≡ remove ps (position_of t.name ps)))

  pub ready-taken : (p : OpenPull) (o : Option FileRecord) → p.ready ≡ o → (pull_for t Committing ps ≡ Some p) × (new ≡ remove ps (position_of t.name ps)) → ReadyTaken o
  ready-taken p None none h = absurd (true≢false (sym (pull_for-stage t Committing ps p h.0) ∙ ap (λ r. same_stage (stage_of r) Committing) none))
  ready-taken p (Some r) some h = (ap (option_and_then (λ (q : OpenPull). q.ready)) h.0 ∙ some, h.1)

of_ready : (o : Option OpenPull) (r : FileRecord) → option_and_then (λ (p : OpenPull). p.ready) o ≡ Some r → (p : OpenPull) × (o ≡ Some p) × (p.ready ≡ Some r)
of_ready None r e = absurd (let h : None ≡ Some r = e in cc)
of_ready (Some p) r e = (p, refl, e)

pub ready-at : (ps : List OpenPull) (i : ℕ) (p : OpenPull) → All IsReady ps → slice_get ps i ≡ Some p → IsReady p
ready-at ps i p each at = subst IsReady (get_or_from_slice_get ps i p p at) (each i p (slice_get_within ps i p at))

-- ---- whether a pull ends

pub close-accepted : (s : FolderState) (t : PullInfo) (o : Option Pull) → is_accepted (close_pull s t o).0 ≡ is_some o
close-accepted s t None = refl
close-accepted s t (Some p) = refl

pub finish-accepted : (s : FolderState) (t : PullInfo) (o : Option Pull) → is_accepted (finish s t o).0 ≡ is_some o
finish-accepted s t None = refl
finish-accepted s t (Some p) = refl

-- ---- the end of a commit

module _ (me : Identity) (es : List Entry) (capacity last : ℕ) (ps new : List OpenPull) (old : IsPlain me es capacity last ps) (t : PullInfo) where
  abbrev pub folder : FolderState
  folder = folder_of me es last (pulls_of ps)

  pub finish-stray : pull_for t Committing ps ≡ None → new ≡ ps → finish folder t (pull_of folder t Committing) ≡ (Stray, folder_of me es last (pulls_of new))
  finish-stray none same =
      ap (finish folder t) (pull_of-plain t Committing me es last ps old.pulls_rise ∙ ap (option_map opened) none)
      ∙ ap (λ xs. (Stray, folder_of me es last (pulls_of xs))) (sym same)

  module _ (r : FileRecord) (taken : option_and_then (λ (p : OpenPull). p.ready) (pull_for t Committing ps) ≡ Some r) (left : new ≡ remove ps (position_of t.name ps)) where
    pull : (p : OpenPull) × (pull_for t Committing ps ≡ Some p) × (p.ready ≡ Some r)
    pull = of_ready (pull_for t Committing ps) r taken

    at : slice_get ps (position_of t.name ps) ≡ Some pull.0
    at = pull_for-at t Committing ps pull.0 pull.1

    here : pull.0.target.name ≡ t.name
    here = pull_for-name t Committing ps pull.0 pull.1

    found : pull_of folder t Committing ≡ Some (opened pull.0)
    found = pull_of-plain t Committing me es last ps old.pulls_rise ∙ ap (option_map opened) pull.1

    ready-is : r ≡ committed_record (opened pull.0).base pull.0.target
    ready-is = ready-at ps (position_of t.name ps) pull.0 old.ready at r pull.2

    fewer : commits new + 1 ≡ commits ps
    fewer =
        let a = ap commits left in
        let b = removed-commits ps (position_of t.name ps) pull.0 at in
        let c : one pull.0 ≡ 1 = ap (λ o. cond (is_some o) 1 0) pull.2 in
        omega arith

    pub finish-number : last + 1 < 2 ^ 63
    finish-number =
        let a = commits-open me es last ps old.pulls_rise in
        let b = old.folder.room in
        let c = fewer in
        omega arith

    pub finish-fits : length es < capacity
    finish-fits = let a = old.room in let b = fewer in omega arith

    module _ (entries : List Entry) (placed : map filed entries ≡ put key_cmp (key r.name me) (record r { sequence = last + 1 }) (map filed es)) where
      announced : from_sorted {R = key_cmp} (map filed entries) ≡ fin.insert (from_sorted (map filed es)) (key r.name me) (record r { sequence = last + 1 })
      announced = ap from_sorted placed ∙ sym (insert_listed keys_total exact_keys (map filed es) (key r.name me) (record r { sequence = last + 1 }) old.rises)

      made : folder_of me entries (last + 1) (pulls_of new) ≡ without_pull (with_local folder (committed_record (opened pull.0).base pull.0.target)) t.name
      made =
          (λ i. record {
            me = me;
            announced = announced i;
            last = last + 1;
            pulls = (ap pulls_of left ∙ removed-pulls t.name ps old.pulls_rise pull.0 at here) i;
          })
          ∙ ap (λ q. without_pull (with_local folder q) t.name) ready-is

      pub finish-step : finish folder t (pull_of folder t Committing) ≡ (Done (last + 1), folder_of me entries (last + 1) (pulls_of new))
      finish-step = ap (finish folder t) found ∙ ap (λ s. (Done (last + 1), s)) (sym made)

      finish-folder : IsFolder (folder_of me entries (last + 1) (pulls_of new))
      finish-folder =
          let open_pull = pull_of-is folder t Committing (opened pull.0) found in
          let target = old.folder.targets t.name (opened pull.0) open_pull.0 in
          subst IsFolder (sym made) (finished-folder folder old.folder (committed_record (opened pull.0).base pull.0.target) target.1 t.name (opened pull.0) open_pull.0 open_pull.1 target.0)

      pub finish-plain : (roomy : ℕ) → length entries ≤ length es + 1 → roomy ≡ capacity → IsPlain me entries roomy (last + 1) new
      finish-plain roomy more same = record {
        rises = ap (is_sorted key_cmp) placed ∙ is_true _ (is_sorted-put key_cmp keys_total (key r.name me) (record r { sequence = last + 1 }) (map filed es) (passes _ old.rises));
        pulls_rise = subst PullsRise (sym left) (removed-rise t.name ps old.pulls_rise pull.0 at here);
        folder = finish-folder;
        ready = subst (All IsReady) (sym left) (removed-ready ps (position_of t.name ps) old.ready);
        room = let a = old.room in let b = fewer in omega arith;
      }
