-- A folder after more records of its own.
use Rattle.std.proofs.Common.{◌≡◌, ◌+◌, ◌<◌, ℕ, ℤ, Bool, true, List, [], ◌∷◌, ◌++◌, ◌⊎◌, inl, inr, length, refl, sym, ap, subst, ◌∙◌, arith}
use Rattle.std.specs.Prelude.{Option, Some, None, option_map, if◌then◌else◌, map, pos, Result, Ok, Err, IfOk}
use Rattle.std.specs.FinMap.{empty, entries, from_sorted, get, get-empty, insert, len-empty, len-entries}
use Rattle.std.specs.Option.{option_or}
use Rattle.std.proofs.lemmas.List.{length-append}
use Rattle.std.proofs.lemmas.Option.{none-some}
use Rattle.sync_record.specs.Devices.{Identity, bytes_cmp}
use Rattle.sync_record.specs.Records.{Name, FileRecord}
use Rattle.sync_record.specs.Validity.{is_valid}
use Rattle.folder_core.specs.declared.announcement.Announcement.{Announcement}
use Rattle.folder_core.specs.Announced.{Announced, Key, announce, key, key_cmp, last_of}
use Rattle.folder_core.specs.Plain.{Rises, filed}
use Rattle.folder_core.specs.PlainRestores.{given}
use Rattle.folder_core.specs.Restores.{MayRestore, restored_folder}
use Rattle.folder_core.specs.States.{FolderState, IsFolder, Pull, local, max_sequence, same_local_version}
use Rattle.folder_core.specs.Steps.{committed_record, with_local}
use Rattle.folder_core.proofs.AnnouncedIndexes.{get-announce_own}
use Rattle.folder_core.proofs.AnnouncedMaps.{insert_split}
use Rattle.folder_core.proofs.ChangeNumbers.{with_local-numbered}
use Rattle.folder_core.proofs.Orders.{exact_keys, keys_total}
use Rattle.folder_core.proofs.PullCommits.{none_counted}
use Rattle.node_replay.specs.declared.plan.PullPlan.{PullPlan}
use Rattle.node_replay.specs.Settled.{advanced, is_open, settled}
use Rattle.node_replay.proofs.LaidFolders.{laid_folder, may-over, restored-over}

pub announce-push : (d : Identity) (rs : List FileRecord) (r : FileRecord) (a : Announced) → announce d (rs ++ r ∷ []) a ≡ insert (announce d rs a) (key r.name d) r
announce-push d [] r a = refl
announce-push d (q ∷ rs) r a = announce-push d rs r (insert a (key q.name d) q)

module _ (s : FolderState) (rs : List FileRecord) where
  pub local-advanced : (n : Name) → local (advanced s rs) n ≡ option_or (last_of n rs) (local s n)
  local-advanced n = get-announce_own s.me rs s.announced n

  -- one more record
  pub advanced-push : (r : FileRecord) → with_local (advanced s rs) r ≡ advanced s (rs ++ record r { sequence = (advanced s rs).last + 1 } ∷ [])
  advanced-push r =
      let q : FileRecord = record r { sequence = s.last + length rs + 1 } in
      let long : s.last + length rs + 1 ≡ s.last + length (rs ++ q ∷ []) = omega (arith, length-append rs (q ∷ [])) in
      λ i. record s { announced = sym (announce-push s.me rs q s.announced) i; last = long i }

pub advanced-none : (s : FolderState) → advanced s [] ≡ s
advanced-none s = let e : s.last + 0 ≡ s.last = omega arith in λ i. record s { last = e i }

none_there : {A B : Type 0} (x : A) → None ≡ Some x → B
none_there x e = absurd (none-some x e)

-- a folder without open pulls stays one where a valid record is announced and a sequence is left
module _ (s : FolderState) (old : IsFolder s) (closed : s.pulls ≡ empty) (r : FileRecord) (valid : is_valid r ≡ true) (room : s.last < max_sequence) where
  abbrev new : FileRecord
  new = record r { sequence = s.last + 1 }

  named : (k : Key) (q : FileRecord) → get (with_local s r).announced k ≡ Some q → q.name ≡ k.name
  named k q e = by (insert_split keys_total exact_keys s.announced (key r.name s.me) k new q e)
    where
      by : ((k ≡ key r.name s.me) × (new ≡ q)) ⊎ (get s.announced k ≡ Some q) → q.name ≡ k.name
      by (inl x) = ap (λ (f : FileRecord). f.name) (sym x.1) ∙ ap (λ (y : Key). y.name) (sym x.0)
      by (inr x) = old.named k q x

  valid-now : (n : Name) (q : FileRecord) → local (with_local s r) n ≡ Some q → is_valid q ≡ true
  valid-now n q e = by (insert_split keys_total exact_keys s.announced (key r.name s.me) (key n s.me) new q e)
    where
      by : ((key n s.me ≡ key r.name s.me) × (new ≡ q)) ⊎ (get s.announced (key n s.me) ≡ Some q) → is_valid q ≡ true
      by (inl x) = ap is_valid (sym x.1) ∙ valid
      by (inr x) = old.valid n q x

  no-pull : {A : Type 0} (n : Name) (p : Pull) → get s.pulls n ≡ Some p → A
  no-pull n p g = none_there p (sym (get-empty bytes_cmp n) ∙ ap (λ m. get m n) (sym closed) ∙ g)

  pub with_local-folder : IsFolder (with_local s r)
  with_local-folder = record {
    named = named;
    valid = valid-now;
    numbered = with_local-numbered s old.numbered r;
    unmoved = λ n p g c. no-pull n p g;
    targets = λ n p g. no-pull n p g;
    room =
        let none = none_counted (entries s.pulls) (ap (λ m. length (entries m)) closed ∙ sym (len-entries empty) ∙ len-empty bytes_cmp Pull) in
        omega (arith, room);
  }

-- whether a plan is open where there are such records
module _ (s : FolderState) (fs : List FileRecord) (p : PullPlan) where
  pub open-some : (r : FileRecord) → last_of p.target.name fs ≡ Some r → same_local_version (Some r.version) p.base ≡ is_open (advanced s fs) p
  open-some r found =
      ap (λ (o : Option FileRecord). same_local_version (option_map (λ (x : FileRecord). x.version) o) p.base)
      (ap (λ o. option_or o (local s p.target.name)) (sym found) ∙ sym (local-advanced s fs p.target.name))

  pub open-none : last_of p.target.name fs ≡ None → is_open s p ≡ is_open (advanced s fs) p
  open-none none =
      ap (λ (o : Option FileRecord). same_local_version (option_map (λ (x : FileRecord). x.version) o) p.base)
      (ap (λ o. option_or o (local s p.target.name)) (sym none) ∙ sym (local-advanced s fs p.target.name))

  -- one that stands is finished
  pub finish : (r : FileRecord) → r ≡ record (committed_record p.base p.target) { sequence = (advanced s fs).last + 1 } → is_open (advanced s fs) p ≡ true
      → advanced s (fs ++ r ∷ []) ≡ settled (advanced s fs) (p, true)
  finish r is opened =
      ap (λ (q : FileRecord). advanced s (fs ++ q ∷ [])) is
      ∙ sym (advanced-push s fs (committed_record p.base p.target))
      ∙ ap (λ (b : Bool). if b then with_local (advanced s fs) (committed_record p.base p.target) else advanced s fs) (sym opened)

-- the same with the last sequence counted on
pub laid-advanced : (s plain : FolderState) → plain ≡ s → s.pulls ≡ empty → (told : List FileRecord) (last : ℕ) → last ≡ s.last + length told → laid_folder plain told last ≡ advanced s told
laid-advanced s plain same closed told last e = λ i. record {
  me = (same i).me;
  announced = announce (same i).me told (same i).announced;
  last = e i;
  pulls = sym closed i;
}

-- what it is restored from
module _ (s plain : FolderState) (same : plain ≡ s) (closed : s.pulls ≡ empty) (me : Identity) (own : me ≡ s.me)
    (below : List Announcement) (is : map filed below ≡ entries plain.announced) (told : List FileRecord) (kept : List Announcement)
    (rises : Rises kept) (laid : from_sorted {R = key_cmp} (map filed kept) ≡ announce me told (from_sorted (map filed below)))
    (last : ℕ) (e : last ≡ s.last + length told) (z : ℤ) (num : z ≡ pos last) where
  plain-own : me ≡ plain.me
  plain-own = own ∙ sym (ap (λ (u : FolderState). u.me) same)

  pub restored-advanced : restored_folder me (map given kept) z ≡ advanced s told
  restored-advanced = restored-over plain below is me plain-own told kept rises laid last z num ∙ laid-advanced s plain same closed told last e

  pub may-advanced : IsFolder (advanced s told) → MayRestore me (map given kept) z
  may-advanced folder = may-over plain below is me plain-own told kept rises laid last z num (subst IsFolder (sym (laid-advanced s plain same closed told last e)) folder)

-- where none is finished, nothing changes
pub unchanged : {A E : Type 0} (state : A → FolderState) (f : A) (told : List FileRecord) (r : Result A E)
    → IfOk r (λ t. state t ≡ advanced (state f) told) → (told ≡ [] → IfOk r (λ t. t ≡ f)) → IfOk r (λ t. (state t).last ≡ (state f).last → t ≡ f)
unchanged state f told (Err e) is same = tt
unchanged state f [] (Ok t) is same = λ e. same refl
unchanged state f (q ∷ told) (Ok t) is same = λ e.
    let more : (state f).last + length (q ∷ told) ≡ (state f).last = sym (ap (λ (u : FolderState). u.last) is) ∙ e in
    absurd (omega (arith, more))
