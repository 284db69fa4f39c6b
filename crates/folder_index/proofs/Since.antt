-- A page of the local records, out of those by sequence.
use Rattle.std.proofs.Common.{◌≡◌, ℕ, suc, ◌+◌, ◌<◌, ◌≤◌, ◌++◌, length, get_or, drop, drop-cons, arith, Bool, true, false, List, [], ◌∷◌, refl, sym, ap, ◌∙◌, ◌⊎◌, inl, inr}
use Rattle.std.specs.Prelude.{cond, filter, fold, map, nat_lt, Option, Some, None}
use Rattle.std.specs.Cmp.{nat_cmp_total}
use Rattle.std.specs.FinMap.{IsAntisymmetric, empty, entries, entries-from_sorted, entries-insert, get, get-empty, get-retain_keys, insert, nat_cmp-IsAntisymmetric, put, retain_keys, same_map, values}
use Rattle.std.specs.Ordering.{nat_cmp}
use Rattle.std.proofs.lemmas.Bool.{cases_eq, le-ltb, lt-ltb}
use Rattle.std.proofs.lemmas.List.{length-append}
use Rattle.std.proofs.lemmas.Option.{none-some}
use Rattle.sync_record.specs.Records.{FileRecord}
use Rattle.folder_core.specs.Reads.{by_sequence, fits_page, local_since, locals, page_of}
use Rattle.folder_core.proofs.AnnouncedMaps.{insert_here, insert_other, insert_split}
use Rattle.folder_core.proofs.ListFilters.{filter_in, filter_map}
use Rattle.folder_core.proofs.ListTests.{In, in_filter, in_get, of_filter}
use Rattle.folder_core.proofs.Orders.{entries-retain_keys}
use Rattle.folder_core.proofs.ReadAnswers.{listed-own, own-listed}
use Rattle.folder_core.proofs.ReadPages.{fits-is}
use Rattle.folder_index.specs.Indexes.{IndexState, folder}
use Rattle.folder_index.specs.Locals.{AreLocals}
use Rattle.folder_index.specs.Sequences.{Sequenced, later_than}
use Rattle.folder_index.proofs.Locals.{one_each}
use Rattle.folder_index.proofs.Sequenced.{none_sequenced, record_of}

exact : IsAntisymmetric nat_cmp
exact = nat_cmp-IsAntisymmetric

-- options that have the same values are one
pub same_option : {A : Type 0} (o p : Option A) → ((x : A) → o ≡ Some x → p ≡ Some x) → ((x : A) → p ≡ Some x → o ≡ Some x) → o ≡ p
same_option None None there back = refl
same_option None (Some y) there back = back y refl
same_option (Some x) p there back = sym (there x refl)

-- no records
abbrev nothing : Sequenced
nothing = empty

-- records put under their sequences, one after the other
abbrev filed : Sequenced → List FileRecord → Sequenced
filed m rs = fold (λ (m : Sequenced) (r : FileRecord). insert m r.sequence r) m rs

entries-filed : (m : Sequenced) (rs : List FileRecord) → entries (filed m rs) ≡ fold (λ es r. put nat_cmp r.sequence r es) (entries m) rs
entries-filed m [] = refl
entries-filed m (r ∷ rs) =
    entries-filed (insert m r.sequence r) rs
    ∙ ap (λ (es : List (ℕ × FileRecord)). fold (λ es r. put nat_cmp r.sequence r es) es rs) (entries-insert nat_cmp_total m r.sequence r)

filed-of : (m : Sequenced) (rs : List FileRecord) (q : ℕ) (x : FileRecord) → get (filed m rs) q ≡ Some x → (get m q ≡ Some x) ⊎ (In x rs × (x.sequence ≡ q))
filed-of m [] q x e = inl e
filed-of m (r ∷ rs) q x e = by (filed-of (insert m r.sequence r) rs q x e)
  where
    first : ((q ≡ r.sequence) × (r ≡ x)) ⊎ (get m q ≡ Some x) → (get m q ≡ Some x) ⊎ (In x (r ∷ rs) × (x.sequence ≡ q))
    first (inl s) = inr (inl (sym s.1), ap (λ (y : FileRecord). y.sequence) (sym s.1) ∙ sym s.0)
    first (inr f) = inl f

    by : (get (insert m r.sequence r) q ≡ Some x) ⊎ (In x rs × (x.sequence ≡ q)) → (get m q ≡ Some x) ⊎ (In x (r ∷ rs) × (x.sequence ≡ q))
    by (inl f) = first (insert_split nat_cmp_total exact m r.sequence q r x f)
    by (inr f) = inr (inr f.0, f.1)

filed-has : (m : Sequenced) (rs : List FileRecord) (x : FileRecord) → ((y : FileRecord) → In y rs → y.sequence ≡ x.sequence → y ≡ x) → In x rs ⊎ (get m x.sequence ≡ Some x) → get (filed m rs) x.sequence ≡ Some x
filed-has m [] x only (inl i) = absurd i
filed-has m [] x only (inr e) = e
filed-has m (r ∷ rs) x only here = filed-has (insert m r.sequence r) rs x (λ y i. only y (inr i)) (by (cases_eq x.sequence r.sequence) here)
  where
    put_here : r ≡ x → get (insert m r.sequence r) x.sequence ≡ Some x
    put_here same = ap (λ (y : FileRecord). get (insert m r.sequence r) y.sequence) (sym same) ∙ insert_here nat_cmp_total exact m r.sequence r ∙ ap Some same

    by : (x.sequence ≡ r.sequence) ⊎ (x.sequence ≡ r.sequence → ⊥) → ((x ≡ r) ⊎ In x rs) ⊎ (get m x.sequence ≡ Some x) → In x rs ⊎ (get (insert m r.sequence r) x.sequence ≡ Some x)
    by (inl s) h = inr (put_here (only r (inl refl) (sym s)))
    by (inr n) (inl (inl s)) = inr (put_here (sym s))
    by (inr n) (inl (inr i)) = inl i
    by (inr n) (inr e) = inr (insert_other nat_cmp_total exact m r.sequence x.sequence r n ∙ e)

module _ (s : IndexState) (records : Sequenced) (are : AreLocals s.me s.announced records) (sequence : ℕ) where
  abbrev above : ℕ → Bool
  above q = nat_lt sequence q

  abbrev later : List FileRecord
  later = filter (λ r. nat_lt sequence r.sequence) (locals (folder s))

  kept : (q : ℕ) → get (retain_keys records above) q ≡ cond (above q) (get records q) None
  kept q = get-retain_keys records above q (λ x e. ap above (sym (exact q x e)))

  to_kept : (q : ℕ) (x : FileRecord) → get (filed nothing later) q ≡ Some x → get (retain_keys records above) q ≡ Some x
  to_kept q x e = by (filed-of nothing later q x e)
    where
      by : (get nothing q ≡ Some x) ⊎ (In x later × (x.sequence ≡ q)) → get (retain_keys records above) q ≡ Some x
      by (inl f) = absurd (none-some x (sym (get-empty nat_cmp q) ∙ f))
      by (inr f) =
          let i = of_filter (λ (r : FileRecord). nat_lt sequence r.sequence) (locals (folder s)) x f.0 in
          let own = listed-own (folder s) x i.0 in
          kept q ∙ ap (λ b. cond b (get records q) None) (ap above (sym f.1) ∙ i.1) ∙ ap (get records) (sym f.1) ∙ are.has own.0 x own.1

  of_kept : (q : ℕ) (x : FileRecord) → get (retain_keys records above) q ≡ Some x → (above q ≡ true) × (get records q ≡ Some x)
  of_kept q x e = by (above q) refl (sym (kept q) ∙ e)
    where
      by : (b : Bool) → above q ≡ b → cond b (get records q) None ≡ Some x → (above q ≡ true) × (get records q ≡ Some x)
      by true t f = (t, f)
      by false t f = absurd (none-some x f)

  from_kept : (q : ℕ) (x : FileRecord) → get (retain_keys records above) q ≡ Some x → get (filed nothing later) q ≡ Some x
  from_kept q x e =
      let k = of_kept q x e in
      let own = are.only q x k.1 in
      let i = in_filter (λ (r : FileRecord). nat_lt sequence r.sequence) (locals (folder s)) x (own-listed (folder s) x.name x own.2) (ap above own.0 ∙ k.0) in
      ap (get (filed nothing later)) (sym own.0)
      ∙ filed-has nothing later x (λ y j same.
      let other = listed-own (folder s) y (of_filter (λ (r : FileRecord). nat_lt sequence r.sequence) (locals (folder s)) y j).0 in
      one_each s.me s.announced records are other.0 x.name y x other.1 own.2 same) (inl i)

  later_filed : filed nothing later ≡ retain_keys records above
  later_filed = same_map nat_cmp_total exact (filed nothing later) (retain_keys records above) (λ q. same_option (get (filed nothing later) q) (get (retain_keys records above) q) (to_kept q) (from_kept q))

  no_entries : entries nothing ≡ []
  no_entries = ap entries (sym none_sequenced) ∙ entries-from_sorted nat_cmp [] tt

  pub later_is : filter (λ r. nat_lt sequence r.sequence) (values records) ≡ by_sequence later
  later_is =
      filter_map record_of (λ r. nat_lt sequence r.sequence) (entries records)
      ∙ ap (map record_of) (filter_in (λ (e : ℕ × FileRecord). nat_lt sequence e.1.sequence) (λ (e : ℕ × FileRecord). above e.0) (entries records) (λ e i. ap above (are.only e.0 e.1 (in_get nat_cmp_total exact records e i)).0))
      ∙ ap (map record_of) (sym (entries-retain_keys nat_cmp_total exact records above))
      ∙ ap values (sym later_filed)
      ∙ ap (map record_of) (entries-filed nothing later ∙ ap (λ (es : List (ℕ × FileRecord)). fold (λ es r. put nat_cmp r.sequence r es) es later) no_entries)

  pub page_is : (limit : ℕ) → page_of limit (filter (λ r. nat_lt sequence r.sequence) (values records)) ≡ local_since (folder s) sequence limit
  page_is limit = ap (page_of limit) later_is

-- ---- a page, record by record

pub some_limit : (limit : ℕ) (front : List FileRecord) (r : FileRecord) → fits_page limit (front ++ r ∷ []) ≡ true → 1 ≤ limit
some_limit limit front r fits = (let f = (fits-is limit (front ++ r ∷ []) fits).0 in let l = length-append front (r ∷ []) in omega arith)

module _ (q : ℕ) (r : FileRecord) (rs : List FileRecord) where
  pub later_next : q < r.sequence → later_than q (r ∷ rs) ≡ r ∷ later_than q rs
  later_next less = ap (λ t. cond t (r ∷ later_than q rs) (later_than q rs)) (lt-ltb q r.sequence less)

  pub later_skips : r.sequence ≤ q → later_than q (r ∷ rs) ≡ later_than q rs
  later_skips le = ap (λ t. cond t (r ∷ later_than q rs) (later_than q rs)) (le-ltb q r.sequence le)

pub next_of : (rs : List FileRecord) (i : ℕ) (r : FileRecord) → i < length rs → r ≡ get_or rs i r → drop i rs ≡ r ∷ drop (i + 1) rs
next_of rs i r short here = drop-cons rs i r short ∙ (λ j. sym here j ∷ drop (suc-is j) rs)
  where
    suc-is : suc i ≡ i + 1
    suc-is = omega arith
