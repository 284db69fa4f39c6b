-- The folder that has records laid over those of another, and what it is restored from.
use Rattle.std.proofs.Common.{◌≡◌, ◌≢◌, ℕ, ℤ, true, false, List, [], ◌∷◌, ◌⊎◌, inl, inr, refl, sym, ap, subst, ◌∙◌}
use Rattle.std.specs.Prelude.{T, bytes_eq, filter, if◌then◌else◌, map, fold, max, pos}
use Rattle.std.specs.Bool.{passes}
use Rattle.std.specs.FinMap.{empty, entries, entries-from_sorted, entries_sorted, from_sorted, get, is_sorted, same_map}
use Rattle.std.proofs.lemmas.Bool.{cases_Bool, true≢false}
use Rattle.std.proofs.lemmas.List.Sorted.{IsPermutation-refl}
use Rattle.sync_record.specs.Devices.{Identity}
use Rattle.sync_record.specs.Records.{Name, FileRecord}
use Rattle.folder_core.specs.declared.announcement.Announcement.{Announcement}
use Rattle.folder_core.specs.Announced.{Announced, Key, announce, by_device, is_by, key, key_cmp}
use Rattle.folder_core.specs.Plain.{Rises, filed}
use Rattle.folder_core.specs.PlainRestores.{given}
use Rattle.folder_core.specs.Reads.{known}
use Rattle.folder_core.specs.Restores.{MayRestore, records_of, restored_folder}
use Rattle.folder_core.specs.States.{FolderState, IsFolder}
use Rattle.folder_core.proofs.AnnouncedIndexes.{get-announce, get-announce_own}
use Rattle.folder_core.proofs.ListTests.{alike_bytes, same_bytes}
use Rattle.folder_core.proofs.Orders.{exact_keys, is_true, keys_total, listed}
use Rattle.folder_core.proofs.PlainChange.{no_pulls}
use Rattle.folder_core.proofs.PlainRestore.{same-folder}
use Rattle.folder_core.proofs.RestoreFolders.{may-again, restored-folder}
use Rattle.node_replay.specs.Recovered.{IsRecovered}

-- the folder with these own records over those that it had, and this last sequence
abbrev pub laid_folder : FolderState → List FileRecord → ℕ → FolderState
laid_folder s told last = record { me = s.me; announced = announce s.me told s.announced; last = last; pulls = empty }

-- ---- it is what is recovered, and nothing else is

module _ (told : List FileRecord) (lasts : List ℕ) (s : FolderState) where
  pub laid-is : (last : ℕ) → last ≡ fold max s.last lasts → IsRecovered told lasts s (laid_folder s told last)
  laid-is last e = record {
    me = refl;
    own = get-announce_own s.me told s.announced;
    others = λ n d other. get-announce s.me told s.announced d n (λ same. other (sym same));
    last = e;
    pulls = refl;
  }

  module _ (t : FolderState) (is : IsRecovered told lasts s t) where
    here : (n : Name) → get t.announced (key n s.me) ≡ get (announce s.me told s.announced) (key n s.me)
    here n = ap (λ d. get t.announced (key n d)) (sym is.me) ∙ is.own n ∙ sym (get-announce_own s.me told s.announced n)

    there : (n : Name) (d : Identity) → d ≢ s.me → get t.announced (key n d) ≡ get (announce s.me told s.announced) (key n d)
    there n d other = is.others n d other ∙ sym (get-announce s.me told s.announced d n (λ same. other (sym same)))

    by_device_of : (k : Key) → (bytes_eq k.device s.me ≡ true) ⊎ (bytes_eq k.device s.me ≡ false) → get t.announced k ≡ get (announce s.me told s.announced) k
    by_device_of k (inl t') = subst (λ d. get t.announced (key k.name d) ≡ get (announce s.me told s.announced) (key k.name d)) (sym (same_bytes k.device s.me t')) (here k.name)
    by_device_of k (inr f) = there k.name k.device (λ same. true≢false (sym (alike_bytes k.device s.me same) ∙ f))

    all-announced : t.announced ≡ announce s.me told s.announced
    all-announced = same_map keys_total exact_keys t.announced (announce s.me told s.announced) (λ k. by_device_of k (cases_Bool (bytes_eq k.device s.me)))

    pub only-laid : (last : ℕ) → last ≡ fold max s.last lasts → t ≡ laid_folder s told last
    only-laid last e = λ i. record { me = is.me i; announced = all-announced i; last = (is.last ∙ sym e) i; pulls = is.pulls i }

-- ---- what it is restored from

module _ (s : FolderState) (below : List Announcement) (is : map filed below ≡ entries s.announced) where
  pub below-announced : from_sorted {R = key_cmp} (map filed below) ≡ s.announced
  below-announced = ap (λ es. from_sorted {R = key_cmp} es) is ∙ sym (listed keys_total exact_keys s.announced)

  pub below-rises : Rises below
  below-rises = is_true _ (subst (λ es. T (is_sorted key_cmp es)) (sym is) (entries_sorted s.announced))

  module _ (told : List FileRecord) (kept : List Announcement) (last : ℕ) (rises : Rises kept) (laid : from_sorted {R = key_cmp} (map filed kept) ≡ announce s.me told (from_sorted (map filed below))) where
    kept-announced : from_sorted {R = key_cmp} (map filed kept) ≡ announce s.me told s.announced
    kept-announced = laid ∙ ap (announce s.me told) below-announced

    devices : (es : List Announcement) → map by_device (map filed es) ≡ map given es
    devices [] = refl
    devices (e ∷ es) = ap (λ l. given e ∷ l) (devices es)

    kept-records : records_of (laid_folder s told last) ≡ map given kept
    kept-records =
        ap (λ (a : Announced). map by_device (entries a)) (sym kept-announced)
        ∙ ap (map by_device) (entries-from_sorted key_cmp (map filed kept) (passes _ rises))
        ∙ devices kept

    pub may-laid : IsFolder (laid_folder s told last) → MayRestore s.me (map given kept) (pos last)
    may-laid folder = subst (λ ps. MayRestore s.me ps (pos last)) kept-records (may-again (laid_folder s told last) folder)

    pub laid-restored : restored_folder s.me (map given kept) (pos last) ≡ laid_folder s told last
    laid-restored =
        sym (same-folder s.me kept kept last rises (IsPermutation-refl kept))
        ∙ λ i. record { me = s.me; announced = kept-announced i; last = last; pulls = no_pulls i }

-- the same as it is found in the code: this device, and the last sequence as a signed number
module _ (s : FolderState) (below : List Announcement) (is : map filed below ≡ entries s.announced) (me : Identity) (own : me ≡ s.me)
    (told : List FileRecord) (kept : List Announcement) (rises : Rises kept) (laid : from_sorted {R = key_cmp} (map filed kept) ≡ announce me told (from_sorted (map filed below)))
    (last : ℕ) (z : ℤ) (num : z ≡ pos last) where
  laid-own : from_sorted {R = key_cmp} (map filed kept) ≡ announce s.me told (from_sorted (map filed below))
  laid-own = laid ∙ ap (λ d. announce d told (from_sorted {R = key_cmp} (map filed below))) own

  pub restored-over : restored_folder me (map given kept) z ≡ laid_folder s told last
  restored-over = (λ i. restored_folder (own i) (map given kept) (num i)) ∙ laid-restored s below is told kept last rises laid-own

  pub may-over : IsFolder (laid_folder s told last) → MayRestore me (map given kept) z
  may-over folder =
      let may : MayRestore s.me (map given kept) (pos last) = may-laid s below is told kept last rises laid-own folder in
      subst (λ (q : Identity × ℤ). MayRestore q.0 (map given kept) q.1) (λ i. (sym own i, sym num i)) may

  -- nothing can be restored where there is no such folder
  pub none-over : (lasts : List ℕ) → last ≡ fold max s.last lasts → ¬ (MayRestore me (map given kept) z) → (t : FolderState) → IsFolder t → ¬ (IsRecovered told lasts s t)
  none-over lasts e refused t folder recovered = refused (may-over (subst IsFolder (only-laid told lasts s t recovered last e) folder))

  pub over-is : (lasts : List ℕ) → last ≡ fold max s.last lasts → (t : FolderState) → t ≡ restored_folder me (map given kept) z → IsRecovered told lasts s t
  over-is lasts e t restored = subst (IsRecovered told lasts s) (sym (restored ∙ restored-over)) (laid-is told lasts s last e)

  pub over-folder : MayRestore me (map given kept) z → (t : FolderState) → t ≡ restored_folder me (map given kept) z → IsFolder t
  over-folder may t restored = subst IsFolder (sym restored) (restored-folder me (map given kept) z may)

-- the last sequence that this device gave
pub known-last : (s : FolderState) (me : Identity) → me ≡ s.me → known s me ≡ s.last
known-last s me own =
    ap (λ b. if b then s.last else fold max 0 (map (λ e. e.1.sequence) (filter (is_by me) (entries s.announced)))) (alike_bytes me s.me own)
