-- The counts of a folder are the numbers of what they count.
use Rattle.std.proofs.Common.{◌≡◌, ◌≢◌, ℕ, Bool, true, List, [], ◌∷◌, length, refl, sym, ap, subst, ◌∙◌, arith}
use Rattle.std.specs.Prelude.{not, ◌&&◌, T, map, filter, count_by, Some, Contains, IsTrue}
use Rattle.std.specs.FinMap.{FinMap, IsAntisymmetric, get, entries, entries_sorted, is_sorted, len, len-entries}
use Rattle.std.specs.Cmp.{IsTotalOrder}
use Rattle.std.specs.declared.cmp.Ordering.{Ordering}
use Rattle.std.proofs.lemmas.Bool.{and_parts, and_from, not-true, not_from_false, false_from_ne_true, true≢false}
use Rattle.std.proofs.lemmas.List.{length-map}
use Rattle.std.proofs.lemmas.List.Sums.{length-filter}
use Rattle.std.proofs.lemmas.Slice.Eq.{bytes_eq-Decides}
use Rattle.sync_record.specs.Devices.{bytes_cmp}
use Rattle.sync_record.specs.Records.{Name, FileRecord, is_live, is_live_file, is_directory}
use Rattle.folder_core.specs.declared.counts.Counts.{Counts}
use Rattle.folder_core.specs.Announced.{KeyedRecord, Key, key, is_by}
use Rattle.folder_core.specs.States.{FolderState, Pull, local, need}
use Rattle.folder_core.specs.Reads.{IsNumberOf, IsCounted, counts, locals}
use Rattle.folder_core.proofs.ListFilters.{filter_map}
use Rattle.folder_core.proofs.ListTests.{parts, inside, In, in_contains, contains_in, in_map, of_map, in_filter, of_filter, below_in, get_in, in_get}
use Rattle.folder_core.proofs.Orders.{bytes_total, keys_total, exact_keys, exact_names}
use Rattle.folder_core.proofs.PullNeed.{need-rising}
use Rattle.folder_core.proofs.ReadLists.{Apart, apart-pairs, pairs-apart, apart-filter, apart-map, length-within, not-itself, rising-apart}

-- they are of one number
pub one-number : {X : Type 0} (P : X → Type 0) (m n : ℕ) → IsNumberOf P m → IsNumberOf P n → m ≡ n
one-number P m n a b =
    let le = length-within a.listed b.listed (pairs-apart a.listed a.once) (λ x i. contains_in b.listed x ((b.each x).1 ((a.each x).0 (in_contains a.listed x i)))) in
    let ge = length-within b.listed a.listed (pairs-apart b.listed b.once) (λ x i. contains_in a.listed x ((a.each x).1 ((b.each x).0 (in_contains b.listed x i)))) in
    let p = a.many in
    let q = b.many in
    omega arith

-- what is made of the elements of a list, of each another
number-of : {A X : Type 0} (f : A → X) (es : List A) (P : X → Type 0) → Apart es → ((d e : A) → In d es → In e es → f d ≡ f e → d ≡ e)
    → ((e : A) → In e es → P (f e)) → ((x : X) → P x → (e : A) × In e es × (f e ≡ x)) → IsNumberOf P (length es)
number-of f es P apart one holds found = record {
  listed = map f es;
  once = apart-pairs (map f es) (apart-map f es apart one);
  each = λ x. (
    λ c. let m = of_map f es x (contains_in (map f es) x c) in subst P m.2 (holds m.0 m.1),
    λ p. let m = found x p in in_contains (map f es) x (subst (λ y. In y (map f es)) m.2 (in_map f es m.0 m.1)),
  );
  many = length-map es f;
}

module _ {K X : Type 0} {R : K → K → Ordering} (o : IsTotalOrder R) (same : IsAntisymmetric R) where
  sorted-apart : (es : List (K × X)) → T (is_sorted R es) → Apart es
  sorted-apart [] sorted = tt
  sorted-apart (e ∷ es) sorted = (λ i. not-itself R o e.0 (below_in o same e.0 es (parts _ _ sorted).0 e i), sorted-apart es (parts _ _ sorted).1)

  pub entries-apart : (m : FinMap R X) → Apart (entries m)
  entries-apart m = sorted-apart (entries m) (entries_sorted m)

  -- a map has one entry at most under a key
  pub one-entry : (m : FinMap R X) (d e : K × X) → In d (entries m) → In e (entries m) → d.0 ≡ e.0 → d ≡ e
  one-entry m d e i j key =
      let value : d.1 ≡ e.1 = inside d.1 e.1 (sym (in_get o same m d i) ∙ ap (get m) key ∙ in_get o same m e j) in
      λ k. (key k, value k)

module _ (s : FolderState) where
  abbrev es : List KeyedRecord
  es = entries s.announced

  abbrev own : List KeyedRecord
  own = filter (is_by s.me) es

  abbrev HasLocal : (FileRecord → Bool) → Name → Type 0
  HasLocal p n = (r : FileRecord) × (local s n ≡ Some r) × (p r ≡ true)

  own-key : (e : KeyedRecord) → In e own → e.0 ≡ key e.0.name s.me
  own-key e i = ap (key e.0.name) ((bytes_eq-Decides e.0.device s.me).0 (of_filter (is_by s.me) es e i).1)

  own-local : (e : KeyedRecord) → In e own → local s e.0.name ≡ Some e.1
  own-local e i = ap (get s.announced) (sym (own-key e i)) ∙ in_get keys_total exact_keys s.announced e (of_filter (is_by s.me) es e i).0

  -- names by their local records
  locals-number : (p : FileRecord → Bool) → IsNumberOf (HasLocal p) (count_by p (locals s))
  locals-number p =
      subst (IsNumberOf (HasLocal p)) (sym (length-map kept (λ (e : KeyedRecord). e.1)) ∙ ap length (sym (filter_map (λ (e : KeyedRecord). e.1) p own)) ∙ length-filter p (locals s))
      (number-of (λ (e : KeyedRecord). e.0.name) kept (HasLocal p)
      (apart-filter passes own (apart-filter (is_by s.me) es (entries-apart keys_total exact_keys s.announced)))
      (λ d e i j named.
      let k = (of_filter passes own d i).0 in
      let l = (of_filter passes own e j).0 in
      one-entry keys_total exact_keys s.announced d e (of_filter (is_by s.me) es d k).0 (of_filter (is_by s.me) es e l).0
      (own-key d k ∙ ap (λ n. key n s.me) named ∙ sym (own-key e l)))
      (λ e i. let t = of_filter passes own e i in (e.1, own-local e t.0, t.1))
      (λ n h.
      let e : KeyedRecord = (key n s.me, h.0) in
      let i = in_filter (is_by s.me) es e (get_in keys_total exact_keys s.announced (key n s.me) h.0 h.1) ((bytes_eq-Decides s.me s.me).1 refl) in
      (e, in_filter passes own e i h.2, refl)))
    where
      passes : KeyedRecord → Bool
      passes e = p e.1

      kept : List KeyedRecord
      kept = filter passes own

  abbrev IsOther : Key → Type 0
  IsOther k = (r : FileRecord) × (get s.announced k ≡ Some r) × (k.device ≢ s.me)

  abbrev foreign : KeyedRecord → Bool
  foreign e = not (is_by s.me e)

  others-number : IsNumberOf IsOther (count_by foreign es)
  others-number =
      subst (IsNumberOf IsOther) (length-filter foreign es)
      (number-of (λ (e : KeyedRecord). e.0) (filter foreign es) IsOther
      (apart-filter foreign es (entries-apart keys_total exact_keys s.announced))
      (λ d e i j. one-entry keys_total exact_keys s.announced d e (of_filter foreign es d i).0 (of_filter foreign es e j).0)
      (λ e i.
      let t = of_filter foreign es e i in
      (e.1, in_get keys_total exact_keys s.announced e t.0, λ same. true≢false (sym ((bytes_eq-Decides e.0.device s.me).1 same) ∙ not-true _ t.1)))
      (λ k h.
      let e : KeyedRecord = (k, h.0) in
      let other = false_from_ne_true (is_by s.me e) (λ t. h.2 ((bytes_eq-Decides k.device s.me).0 t)) in
      (e, in_filter foreign es e (get_in keys_total exact_keys s.announced k h.0 h.1) (not_from_false _ other), refl)))

  abbrev HasPull : Name → Type 0
  HasPull n = (p : Pull) × (get s.pulls n ≡ Some p)

  pulls-number : IsNumberOf HasPull (len s.pulls)
  pulls-number =
      subst (IsNumberOf HasPull) (sym (len-entries s.pulls))
      (number-of (λ (e : Name × Pull). e.0) (entries s.pulls) HasPull
      (entries-apart bytes_total exact_names s.pulls)
      (one-entry bytes_total exact_names s.pulls)
      (λ e i. (e.1, in_get bytes_total exact_names s.pulls e i))
      (λ n h. ((n, h.0), get_in bytes_total exact_names s.pulls n h.0 h.1, refl)))

  need-number : IsNumberOf (Contains (need s)) (length (need s))
  need-number = record {
    listed = need s;
    once = apart-pairs (need s) (rising-apart bytes_cmp bytes_total (need s) (need-rising s));
    each = λ n. (λ c. c, λ c. c);
    many = refl;
  }

  directories-number : IsNumberOf (λ n. (r : FileRecord) × (local s n ≡ Some r) × IsTrue (is_live r) × IsTrue (is_directory r)) (count_by (λ r. is_live r && is_directory r) (locals s))
  directories-number =
      let n = locals-number (λ r. is_live r && is_directory r) in record {
        listed = n.listed;
        once = n.once;
        each = λ x. (
          λ c. let h = (n.each x).0 c in (h.0, h.1, (and_parts _ _ h.2).0, (and_parts _ _ h.2).1),
          λ h. (n.each x).1 (h.0, h.1, and_from _ _ h.2 h.3),
        );
        many = n.many;
      }

  pub counts-counted : IsCounted s (counts s)
  counts-counted = record {
    files = locals-number is_live_file;
    directories = directories-number;
    deletions = locals-number (λ r. r.deleted);
    needed = need-number;
    others = others-number;
    pulls = pulls-number;
    last = refl;
  }

  pub counted-one : (c : Counts) → IsCounted s c → c ≡ counts s
  counted-one c h =
      let own = counts-counted in
      let files = one-number _ _ _ h.files own.files in
      let directories = one-number _ _ _ h.directories own.directories in
      let deletions = one-number _ _ _ h.deletions own.deletions in
      let needed = one-number _ _ _ h.needed own.needed in
      let others = one-number _ _ _ h.others own.others in
      let pulls = one-number _ _ _ h.pulls own.pulls in
      λ i. record {
        files = files i;
        directories = directories i;
        deletions = deletions i;
        needed = needed i;
        others = others i;
        pulls = pulls i;
        last = h.last i;
      }
