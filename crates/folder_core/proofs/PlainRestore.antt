-- What is restored from records in order is the folder that the rules restore.
use Rattle.std.proofs.Common.{◌≡◌, ◌≢◌, ◌↔◌, ℕ, suc, ◌+◌, ◌<◌, ◌≤◌, ◌^◌, Bool, true, false, List, [], ◌∷◌, length, refl, sym, ap, subst, ◌∙◌, arith, inl, inr}
use Rattle.std.proofs.lemmas.Bool.{and_from, and_parts, leb-true, le-leb}
use Rattle.std.proofs.lemmas.List.Sorted.{Contains-permutation, IsPermutation-sym, length_permutation}
use Rattle.std.specs.Bool.{passes}
use Rattle.std.specs.FinMap.{entries, entries-from_sorted, from_sorted, get, get-from_sorted, same_map}
use Rattle.std.specs.List.{list_all, find as first_where}
use Rattle.std.specs.List.Sorted.{IsPermutation}
use Rattle.std.specs.Prelude.{AllPairs, Contains, IsTrue, Option, Some, None, pos, cond, filter, map}
use Rattle.std.proofs.lemmas.Option.{none-some}
use Rattle.sync_record.specs.Devices.{Identity}
use Rattle.sync_record.specs.Records.{FileRecord}
use Rattle.sync_record.specs.Validity.{is_valid}
use Rattle.folder_core.specs.declared.announcement.Announcement.{Announcement as Entry}
use Rattle.folder_core.specs.Announced.{Announced, KeyedRecord, Key, key, key_cmp}
use Rattle.folder_core.specs.Plain.{IsPlain, Rises, filed, folder_of, pulls_of}
use Rattle.folder_core.specs.PlainReads.{is_from}
use Rattle.folder_core.specs.PlainRestores.{AreNumbered, IsOnce, given, is_numbered}
use Rattle.folder_core.specs.Restores.{MayRestore, key_of, restored_folder}
use Rattle.folder_core.specs.States.{IsFolder}
use Rattle.folder_core.proofs.ListTests.{In, alike_bytes, all_in, contains_in, find_in, in_all, in_contains, in_filter, in_get, in_map, of_filter, of_map, same_bytes}
use Rattle.folder_core.proofs.Orders.{exact_keys, keys_total}
use Rattle.folder_core.proofs.PlainChange.{no_pulls}
use Rattle.folder_core.proofs.PlainRestoreLists.{key_at, keys-permuted, rising-keys}
use Rattle.folder_core.proofs.ReadLists.{Apart, apart-filter, apart-map, apart-pairs, pairs-apart}
use Rattle.folder_core.proofs.RestoreFolders.{apart-pairs_by, found-given, given-found, pairs-apart_by, restored-folder}

-- ---- the records of these entries are numbered

pub none-numbered : (last : ℕ) (es : List Entry) → es ≡ [] → AreNumbered last es
none-numbered last es none = subst (AreNumbered last) (sym none) (record { each = refl; distinct = λ i j d before below. absurd (omega arith) })

pub none-found : (p : Entry → Bool) (es : List Entry) → first_where p es ≡ None → filter p es ≡ []
none-found p [] e = refl
none-found p (x ∷ es) e =
    elim (p x) as (λ b. cond b (Some x) (first_where p es) ≡ None → cond b (x ∷ filter p es) (filter p es) ≡ []) [
      | true ↦ λ s. absurd (none-some x (sym s))
      | false ↦ λ s. none-found p es s
    ] e

pub found-none : (p : Entry → Bool) (es : List Entry) → filter p es ≡ [] → first_where p es ≡ None
found-none p [] e = refl
found-none p (x ∷ es) e =
    elim (p x) as (λ b. cond b (x ∷ filter p es) (filter p es) ≡ [] → cond b (Some x) (first_where p es) ≡ None) [
      | true ↦ λ s. absurd (not_empty x (filter p es) s)
      | false ↦ λ s. found-none p es s
    ] e
  where
    not_empty : (y : Entry) (ys : List Entry) → y ∷ ys ≡ [] → ⊥
    not_empty y ys s = cc

abbrev pub sequence_of : Entry → ℕ
sequence_of e = e.record.sequence

pub distinct-numbered : (last : ℕ) (es : List Entry) (r : Bool) → list_all (λ e. is_numbered last e.record) es ≡ true → IsTrue r ↔ AllPairs (λ m n. m ≢ n) (map sequence_of es) → IsTrue r ↔ AreNumbered last es
distinct-numbered last es r each is = (
  λ t. record { each = each; distinct = apart-pairs_by sequence_of es (pairs-apart (map sequence_of es) (is.0 t)) },
  λ h. is.1 (apart-pairs (map sequence_of es) (pairs-apart_by sequence_of es h.distinct)),
)

-- ---- elements of one key are one

module _ {A B : Type 0} (f : A → B) where
  one-by : (xs : List A) → Apart (map f xs) → (x y : A) → In x xs → In y xs → f x ≡ f y → x ≡ y
  one-by [] apart x y i j e = absurd i
  one-by (z ∷ zs) apart x y (inl s) (inl t) e = s ∙ sym t
  one-by (z ∷ zs) apart x y (inl s) (inr j) e = absurd (apart.0 (subst (λ b. In b (map f zs)) (sym e ∙ ap f s) (in_map f zs y j)))
  one-by (z ∷ zs) apart x y (inr i) (inl t) e = absurd (apart.0 (subst (λ b. In b (map f zs)) (e ∙ ap f t) (in_map f zs x i)))
  one-by (z ∷ zs) apart x y (inr i) (inr j) e = one-by zs apart.1 x y i j e

  apart-of : (xs : List A) → Apart (map f xs) → Apart xs
  apart-of [] apart = tt
  apart-of (x ∷ xs) apart = (λ i. apart.0 (in_map f xs x i), apart-of xs apart.1)

keys-given : (es : List Entry) → map key_of (map given es) ≡ map key_at es
keys-given [] = refl
keys-given (e ∷ es) = λ i. key_at e ∷ keys-given es i

-- ---- the records given, and the same in order

module _ (me : Identity) (records es : List Entry) (last : ℕ) where
  abbrev own : List Entry
  own = filter (is_from me) es

  abbrev pairs : List (Identity × FileRecord)
  pairs = map given records

  pub once-given : AllPairs (λ p q. key_of p ≢ key_of q) pairs → IsOnce records
  once-given once = apart-pairs_by key_at records (subst Apart (keys-given records) (pairs-apart_by key_of pairs once))

  module _ (rises : Rises es) (same : IsPermutation records es) where
    keys-apart : Apart (map key_at es)
    keys-apart = rising-keys es (passes _ rises)

    there : (e : Entry) → In e records → In e es
    there e i = contains_in es e (Contains-permutation records es e same (in_contains records e i))

    back : (e : Entry) → In e es → In e records
    back e i = contains_in records e (Contains-permutation es records e (IsPermutation-sym records es same) (in_contains es e i))

    once : AllPairs (λ p q. key_of p ≢ key_of q) pairs
    once =
        apart-pairs_by key_of pairs (subst Apart (sym (keys-given records))
        (keys-permuted es records (IsPermutation-sym records es same) keys-apart))

    -- the entry of a record of this device
    own-entry : (r : FileRecord) → Contains pairs (me, r) → (e : Entry) × In e own × (e.record ≡ r)
    own-entry r c =
        let m = of_map given records (me, r) (contains_in pairs (me, r) c) in
        let e : Entry = m.0 in
        let device : e.device ≡ me = ap (λ (p : Identity × FileRecord). p.0) m.2 in
        (e, in_filter (is_from me) es e (there e m.1) (alike_bytes e.device me device), ap (λ (p : Identity × FileRecord). p.1) m.2)

    own-record : (e : Entry) → In e own → Contains pairs (me, e.record) × (e.device ≡ me)
    own-record e i =
        let f = of_filter (is_from me) es e i in
        let device : e.device ≡ me = same_bytes e.device me f.1 in
        (in_contains pairs (me, e.record) (subst (λ d. In (d, e.record) pairs) device (in_map given records e (back e f.0))), device)

    numbered-in : (r : FileRecord) → is_numbered last r ≡ true → IsTrue (is_valid r) × (1 ≤ r.sequence) × (r.sequence ≤ last)
    numbered-in r t =
        let p = and_parts _ _ t in
        let q = and_parts _ _ p.0 in
        (q.0, leb-true _ _ q.1, leb-true _ _ p.1)

    pub may-restore : last < 2 ^ 63 → AreNumbered last own → MayRestore me pairs (pos last)
    may-restore fits numbered =
        let each : (r : FileRecord) → Contains pairs (me, r) → is_numbered last r ≡ true =
        λ r c. let e = own-entry r c in ap (is_numbered last) (sym e.2) ∙ all_in (λ e. is_numbered last e.record) own numbered.each e.0 e.1 in
        record {
          not_negative = refl;
          fits = omega arith;
          once = once;
          valid = λ r c. (numbered-in r (each r c)).0;
          in_range = λ r c. let n = numbered-in r (each r c) in (n.1, n.2);
          distinct = λ q r c d equal.
              let e = own-entry q c in
              let f = own-entry r d in
              let numbers : sequence_of e.0 ≡ sequence_of f.0 = ap (λ (x : FileRecord). x.sequence) e.2 ∙ equal ∙ sym (ap (λ (x : FileRecord). x.sequence) f.2) in
              sym e.2 ∙ ap (λ (x : Entry). x.record) (one-by sequence_of own (pairs-apart_by sequence_of own numbered.distinct) e.0 f.0 e.1 f.1 numbers) ∙ f.2;
        }

    pub numbered : MayRestore me pairs (pos last) → AreNumbered last own
    numbered may = record {
      each = in_all (λ e. is_numbered last e.record) own (λ e i.
          let c = own-record e i in
          let n = may.in_range e.record c.0 in
          and_from _ _ (and_from _ _ (may.valid e.record c.0) (le-leb _ _ n.0)) (le-leb _ _ n.1));
      distinct = apart-pairs_by sequence_of own (apart-map sequence_of own
          (apart-filter (is_from me) es (apart-of key_at es keys-apart))
          (λ e f i j equal.
          let c = own-record e i in
          let d = own-record f j in
          let value : e.record ≡ f.record = may.distinct e.record f.record c.0 d.0 equal in
          let device : e.device ≡ f.device = c.1 ∙ sym d.1 in
          (λ i. record { device = device i; «record» = value i })));
    }

    -- ---- what is announced

    abbrev announced : Announced
    announced = from_sorted (map filed es)

    abbrev restored : Announced
    restored = (restored_folder me pairs (pos last)).announced

    has-restored : (k : Key) (r : FileRecord) → get announced k ≡ Some r → get restored k ≡ Some r
    has-restored k r g =
        let i = find_in keys_total exact_keys (map filed es) k r (sym (get-from_sorted key_cmp (map filed es) k (passes _ rises)) ∙ g) in
        let m = of_map filed es (k, r) i in
        let e : Entry = m.0 in
        let g = found-given pairs once e.device e.record (in_map given records e (back e m.1)) in
        ap (get restored) (sym (ap (λ (p : KeyedRecord). p.0) m.2)) ∙ g ∙ ap (λ (p : KeyedRecord). Some p.1) m.2

    restored-has : (k : Key) (r : FileRecord) → get restored k ≡ Some r → get announced k ≡ Some r
    restored-has k r g =
        let h = given-found pairs k r g in
        let m = of_map given records (k.device, r) h.0 in
        let e : Entry = m.0 in
        let device : e.device ≡ k.device = ap (λ (p : Identity × FileRecord). p.0) m.2 in
        let value : e.record ≡ r = ap (λ (p : Identity × FileRecord). p.1) m.2 in
        let name : e.record.name ≡ k.name = ap (λ (x : FileRecord). x.name) value ∙ h.1 in
        let listed : In (filed e) (entries announced) = subst (In (filed e)) (sym (entries-from_sorted key_cmp (map filed es) (passes _ rises))) (in_map filed es e (there e m.1)) in
        (λ i. get announced (key (sym name i) (sym device i))) ∙ in_get keys_total exact_keys announced (filed e) listed ∙ ap Some value

    alike : (o q : Option FileRecord) → ((r : FileRecord) → o ≡ Some r → q ≡ Some r) → ((r : FileRecord) → q ≡ Some r → o ≡ Some r) → o ≡ q
    alike None None f g = refl
    alike None (Some r) f g = g r refl
    alike (Some r) q f g = sym (f r refl)

    pub same-folder : folder_of me es last (pulls_of []) ≡ restored_folder me pairs (pos last)
    same-folder =
        let all : announced ≡ restored = same_map keys_total exact_keys announced restored (λ k. alike (get announced k) (get restored k) (has-restored k) (restored-has k)) in
        λ i. record { me = me; announced = all i; last = last; pulls = no_pulls i }

    pub plain-restored : (capacity : ℕ) → length es ≤ capacity → last < 2 ^ 63 → AreNumbered last own → IsPlain me es capacity last []
    plain-restored capacity room fits numbered = record {
      rises = rises;
      pulls_rise = refl;
      folder = subst IsFolder (sym same-folder) (restored-folder me pairs (pos last) (may-restore fits numbered));
      ready = λ i p below. absurd (let none : i < 0 = below in omega arith);
      room = roomy (length es) capacity room;
    }
      where
        roomy : (m n : ℕ) → m ≤ n → m + 0 ≤ n
        roomy m n le = omega arith

-- no entries are none in any order
pub none-permuted : (es fs : List Entry) → IsPermutation es fs → es ≡ [] → fs ≡ []
none-permuted es fs p none = empty fs (length_permutation es fs p ∙ ap length none)
  where
    empty : (gs : List Entry) → length gs ≡ 0 → gs ≡ []
    empty [] e = refl
    empty (g ∷ gs) e = absurd (let n : suc (length gs) ≡ 0 = e in omega arith)
