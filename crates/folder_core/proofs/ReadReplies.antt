-- Every query has a reply; and what is said of a reply holds of no other.
use Rattle.std.proofs.Common.{◌≡◌, ◌≢◌, ◌⊎◌, ℕ, ◌≤◌, false, List, [], ◌∷◌, refl, sym, ap, subst, ◌∙◌, arith, inl, inr}
use Rattle.std.specs.Prelude.{Option, Some, None, option_map, Contains}
use Rattle.std.specs.FinMap.{get, entries}
use Rattle.sync_record.specs.Devices.{Identity, bytes_cmp}
use Rattle.sync_record.specs.Records.{Name, FileRecord}
use Rattle.sync_record.specs.Validity.{is_valid}
use Rattle.folder_core.specs.declared.place.Place.{Place}
use Rattle.folder_core.specs.Announced.{KeyedRecord, key, devices_of}
use Rattle.folder_core.specs.States.{FolderState}
use Rattle.folder_core.specs.Reads.{Query, Reply, Reads, Local, Best, Bests, Need, LocalSince, FindBlock, Known, CountAll, IsSomePlace, best_with_devices, known, places, with_devices}
use Rattle.folder_core.proofs.BestRule.{best-none, best-only}
use Rattle.folder_core.proofs.BestDevices.{devices-rise, devices-listed}
use Rattle.folder_core.proofs.ListTests.{in_contains, contains_in}
use Rattle.folder_core.proofs.Orders.{bytes_total}
use Rattle.folder_core.proofs.ReadAnswers.{BestFound, known-greatest, known-reached}
use Rattle.folder_core.proofs.ReadLists.{rising-same}

some-place : (s : FolderState) (hash : List ℕ) (ps : List Place) → places s hash ≡ ps → (r : Option Place) × IsSomePlace s hash r
some-place s hash [] e = (None, e)
some-place s hash (p ∷ ps) e = (Some p, subst (λ l. Contains l p) (sym e) (0, omega arith, refl))

pub some-reply : (s : FolderState) (q : Query) → (r : Reply q) × Reads s q r
some-reply s (Local n) = (_, refl)
some-reply s (Best n) = (_, refl)
some-reply s (Bests after limit) = (_, refl)
some-reply s (Need after limit) = (_, refl)
some-reply s (LocalSince seq limit) = (_, refl)
some-reply s (FindBlock hash) = some-place s hash (places s hash) refl
some-reply s (Known d) = (_, refl)
some-reply s CountAll = (_, refl)

pub one-reply : (s : FolderState) (q : Query) (r t : Reply q) → Reads s q r → Reads s q t → (r ≡ t) ⊎ ((hash : List ℕ) × (q ≡ FindBlock hash))
one-reply s (Local n) r t e f = inl (e ∙ sym f)
one-reply s (Best n) r t e f = inl (e ∙ sym f)
one-reply s (Bests after limit) r t e f = inl (e ∙ sym f)
one-reply s (Need after limit) r t e f = inl (e ∙ sym f)
one-reply s (LocalSince seq limit) r t e f = inl (e ∙ sym f)
one-reply s (FindBlock hash) r t e f = inr (hash, refl)
one-reply s (Known d) r t e f = inl (e ∙ sym f)
one-reply s CountAll r t e f = inl (e ∙ sym f)

module _ (s : FolderState) (n : Name) where
  pub no_best-is : ((d : Identity) (r : FileRecord) → get s.announced (key n d) ≡ Some r → is_valid r ≡ false) → None ≡ best_with_devices s n
  no_best-is each = sym (ap (option_map (with_devices (entries s.announced))) ((best-none s.announced n).1 each))

  pub best-is : (r : FileRecord) (ds : List Identity) → BestFound s n r ds → Some (r, ds) ≡ best_with_devices s n
  best-is r ds h =
      let b : KeyedRecord = (key n h.0, r) in
      let is = best-only s.announced n h.0 r h.1 in
      let theirs = devices_of (entries s.announced) b in
      let same : ds ≡ theirs =
      rising-same bytes_cmp bytes_total ds theirs h.2 (devices-rise s.announced b)
      (λ d i. contains_in theirs d ((devices-listed s.announced n b d is).1 ((h.3 d).0 (in_contains ds d i))))
      (λ d i. contains_in ds d ((h.3 d).1 ((devices-listed s.announced n b d is).0 (in_contains theirs d i)))) in
      ap (λ l. Some (r, l)) same ∙ sym (ap (option_map (with_devices (entries s.announced))) is)

-- a number at least every sequence of a device, and one of them or 0
abbrev pub IsGreatest : FolderState → Identity → ℕ → Type 0
IsGreatest s d k =
    ((n : Name) (r : FileRecord) → get s.announced (key n d) ≡ Some r → r.sequence ≤ k)
    × ((k ≡ 0) ⊎ ((n : Name) × (r : FileRecord) × (get s.announced (key n d) ≡ Some r) × (r.sequence ≡ k)))

greatest-below : (s : FolderState) (d : Identity) (j k : ℕ) → IsGreatest s d j → IsGreatest s d k → j ≤ k
greatest-below s d j k g h = by g.1
  where
    by : (j ≡ 0) ⊎ ((n : Name) × (r : FileRecord) × (get s.announced (key n d) ≡ Some r) × (r.sequence ≡ j)) → j ≤ k
    by (inl e) = omega arith
    by (inr t) = let le = h.0 t.0 t.1 t.2 in let e = t.3 in omega arith

pub known-is_greatest : (s : FolderState) (d : Identity) (k : ℕ) → d ≢ s.me → IsGreatest s d k → k ≡ known s d
known-is_greatest s d k other h =
    let own : IsGreatest s d (known s d) = (known-greatest s d other, known-reached s d other) in
    let a = greatest-below s d k (known s d) h own in
    let b = greatest-below s d (known s d) k own h in
    omega arith
