-- Worked rows: what may be restored, and what may not.
use Rattle.std.proofs.Common.{◌≡◌, ◌⊎◌, ◌≤◌, true, false, List, [], ◌∷◌, refl, sym, ap, ◌∙◌, arith, inl, inr}
use Rattle.std.specs.Prelude.{bytes_eq, pos, negsuc, Contains}
use Rattle.std.specs.List.{list_any}
use Rattle.std.specs.Ordering.{eq_by_cmp}
use Rattle.std.proofs.lemmas.Bool.{true≢false}
use Rattle.sync_record.specs.Devices.{Identity}
use Rattle.sync_record.specs.Records.{FileRecord}
use Rattle.sync_record.specs.Validity.{is_valid}
use Rattle.folder_core.specs.Announced.{Key, key, key_cmp}
use Rattle.folder_core.specs.Restores.{MayRestore, key_of}
use Rattle.folder_core.specs.Samples.{me, p1, p2, x, y, file, recorded}
use Rattle.folder_core.proofs.ListTests.{alike_bytes, In, in_any, contains_in}
use Rattle.folder_core.proofs.RestoreFolders.{apart-pairs_by, tie}

pub negative : ¬ (MayRestore me [] (negsuc 0))
negative m = true≢false (sym m.not_negative)

pub too-great : ¬ (MayRestore me [] (pos 9223372036854775808))
too-great m = let fits = m.fits in omega arith

pub repeated-name : ¬ (MayRestore me ((p1, file ((1, 1) ∷ []) 1) ∷ (p2, file ((1, 1) ∷ []) 1) ∷ (p1, file ((1, 2) ∷ []) 2) ∷ []) (pos 0))
repeated-name m = m.once 0 2 (p1, file ((1, 1) ∷ []) 1) (omega arith) (omega arith) refl

pub invalid-own : ¬ (MayRestore me ((me, record (recorded x 1) { invalid = true }) ∷ []) (pos 1))
invalid-own m = true≢false (sym (m.valid (record (recorded x 1) { invalid = true }) (0, omega arith, refl)))

pub repeated-sequence : ¬ (MayRestore me ((me, recorded x 1) ∷ (me, recorded y 1) ∷ []) (pos 2))
repeated-sequence m =
    let same = m.distinct (recorded x 1) (recorded y 1) (0, omega arith, refl) (1, omega arith, refl) refl in
    true≢false (sym (alike_bytes x y (ap (λ (r : FileRecord). r.name) same)))

pub sequence-zero : ¬ (MayRestore me ((me, recorded x 0) ∷ []) (pos 2))
sequence-zero m = let h = (m.in_range (recorded x 0) (0, omega arith, refl)).0 in omega arith

pub above-last : ¬ (MayRestore me ((me, recorded x 3) ∷ []) (pos 2))
above-last m = let h = (m.in_range (recorded x 3) (0, omega arith, refl)).1 in omega arith

-- keys that are apart, by computation
none-in : (k : Key) (ks : List Key) → list_any (eq_by_cmp key_cmp k) ks ≡ false → ¬ (In k ks)
none-in k ks none i = true≢false (sym (in_any (eq_by_cmp key_cmp k) ks k i (tie k)) ∙ none)

abbrev Devices : Type 0
Devices = List (Identity × FileRecord)

abbrev two_records : Devices
two_records = (me, recorded x 2) ∷ (me, recorded y 1) ∷ []

two-are : (r : FileRecord) → Contains two_records (me, r) → (r ≡ recorded x 2) ⊎ (r ≡ recorded y 1)
two-are r c = by (contains_in two_records (me, r) c)
  where
    by : In (me, r) two_records → (r ≡ recorded x 2) ⊎ (r ≡ recorded y 1)
    by (inl e) = inl (ap (λ (p : Identity × FileRecord). p.1) e)
    by (inr (inl e)) = inr (ap (λ (p : Identity × FileRecord). p.1) e)
    by (inr (inr i)) = absurd i

pub two-restored : MayRestore me two_records (pos 2)
two-restored = record {
  not_negative = refl;
  fits = omega arith;
  once = apart-pairs_by key_of two_records (none-in (key x me) (key y me ∷ []) refl, (none-in (key y me) [] refl, tt));
  valid = λ r c. valid r (two-are r c);
  in_range = λ r c. ranged r (two-are r c);
  distinct = λ q r c d. single q r (two-are q c) (two-are r d);
}
  where
    valid : (r : FileRecord) → (r ≡ recorded x 2) ⊎ (r ≡ recorded y 1) → is_valid r ≡ true
    valid r (inl e) = ap is_valid e
    valid r (inr e) = ap is_valid e

    ranged : (r : FileRecord) → (r ≡ recorded x 2) ⊎ (r ≡ recorded y 1) → (1 ≤ r.sequence) × (r.sequence ≤ 2)
    ranged r (inl e) = let s = ap (λ (q : FileRecord). q.sequence) e in (omega arith, omega arith)
    ranged r (inr e) = let s = ap (λ (q : FileRecord). q.sequence) e in (omega arith, omega arith)

    single : (q r : FileRecord) → (q ≡ recorded x 2) ⊎ (q ≡ recorded y 1) → (r ≡ recorded x 2) ⊎ (r ≡ recorded y 1) → q.sequence ≡ r.sequence → q ≡ r
    single q r (inl e) (inl f) same = e ∙ sym f
    single q r (inr e) (inr f) same = e ∙ sym f
    single q r (inl e) (inr f) same =
        let s = ap (λ (w : FileRecord). w.sequence) e in let t = ap (λ (w : FileRecord). w.sequence) f in absurd (omega arith)
    single q r (inr e) (inl f) same =
        let s = ap (λ (w : FileRecord). w.sequence) e in let t = ap (λ (w : FileRecord). w.sequence) f in absurd (omega arith)

abbrev of_others : Devices
of_others = (p1, record (recorded x 0) { invalid = true }) ∷ (p1, recorded y 9) ∷ (p2, recorded x 9) ∷ []

none-own : (r : FileRecord) → Contains of_others (me, r) → ⊥
none-own r c =
    true≢false (sym (in_any (λ (p : Identity × FileRecord). bytes_eq p.0 me) of_others (me, r) (contains_in of_others (me, r) c) (alike_bytes me me refl)))

pub others-restored : MayRestore me of_others (pos 0)
others-restored = record {
  not_negative = refl;
  fits = omega arith;
  once = apart-pairs_by key_of of_others
      (none-in (key x p1) (key y p1 ∷ key x p2 ∷ []) refl, (none-in (key y p1) (key x p2 ∷ []) refl, (none-in (key x p2) [] refl, tt)));
  valid = λ r c. absurd (none-own r c);
  in_range = λ r c. absurd (none-own r c);
  distinct = λ q r c. absurd (none-own q c);
}
