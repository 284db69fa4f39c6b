-- How often a best is chosen where a device's records are taken away.
use Rattle.std.proofs.Common.{◌≡◌, ℕ, suc, ◌+◌, ◌-◌, ◌^◌, ◌≤◌, Bool, true, false, List, [], ◌∷◌, ◌++◌, length, length-append, refl, sym, ap, subst, ◌∙◌, inl, inr, arith}
use Rattle.std.specs.Prelude.{bytes_eq, ◌||◌, cond, filter, is_some, map, not, T, Option, Some, None}
use Rattle.std.specs.Bool.{passes}
use Rattle.std.specs.Cmp.{tied_itself}
use Rattle.std.specs.FinMap.{entries, entries_sorted, get, is_sorted, remove}
use Rattle.std.specs.FinMap.Entries.{below_all}
use Rattle.std.specs.FinSet.{contains-from_list, from_list, len, len-empty, len-insert, same_set}
use Rattle.std.specs.List.{list_any}
use Rattle.std.specs.Option.{option_or}
use Rattle.std.specs.Ordering.{eq_by_cmp, is_eq}
use Rattle.std.specs.declared.cmp.Ordering.TheVariants.{Less, Equal}
use Rattle.std.proofs.lemmas.Bool.{true≢false}
use Rattle.std.proofs.lemmas.List.{length-map}
use Rattle.sync_record.specs.Devices.{Identity, bytes_cmp}
use Rattle.sync_record.specs.Records.{Name, FileRecord}
use Rattle.folder_core.specs.Announced.{Announced, Key, KeyedRecord, is_by, key, key_cmp}
use Rattle.folder_core.specs.Plain.{IsLastOfEach, NamesRise}
use Rattle.folder_core.proofs.AnnouncedIndexes.{get-announce_own, same_key}
use Rattle.folder_core.proofs.ListTests.{In, any_in, by_or, in_any, in_get, is_less, of_filter, of_map, parts, same_bytes}
use Rattle.folder_core.proofs.Orders.{bytes_total, exact_keys, exact_names, is_true, keys_total}
use Rattle.folder_index.specs.Devices.{names_by, without_device, without_names}
use Rattle.folder_index.specs.Indexes.{IndexState, counted, with_records, without_record}
use Rattle.folder_db.specs.Indexed.{counted_more, names_with}
use Rattle.folder_db.proofs.Messages.{full, has-name, none-below, one-cleared, same-any, stale, tied-name}

-- ---- names of which each is there once

abbrev is_at : Name → Name → Bool
is_at n m = eq_by_cmp bytes_cmp n m

abbrev pub Apart : List Name → Type 0
Apart [] = Unit {0}
Apart (n ∷ ns) = (list_any (is_at n) ns ≡ false) × Apart ns

one-more : (n : ℕ) → n + 1 ≡ suc n
one-more n = omega arith

pub apart-counted : (ns : List Name) → Apart ns → len {R = bytes_cmp} (from_list ns) ≡ length ns
apart-counted [] h = len-empty bytes_cmp
apart-counted (n ∷ ns) h =
    len-insert bytes_total (from_list ns) n
    ∙ ap (λ c. cond c (len {R = bytes_cmp} (from_list ns)) (len {R = bytes_cmp} (from_list ns) + 1)) (contains-from_list bytes_total ns n ∙ h.0)
    ∙ ap (λ k. k + 1) (apart-counted ns h.1)
    ∙ one-more (length ns)

any-filter : (p q : Name → Bool) (ns : List Name) → list_any p ns ≡ false → list_any p (filter q ns) ≡ false
any-filter p q ns none =
    by_or (list_any p (filter q ns)) (list_any p (filter q ns) ≡ false)
    (λ t.
    let found = any_in p (filter q ns) t in
    absurd (true≢false (sym (in_any p ns found.0 (of_filter q ns found.0 found.1).0 found.2) ∙ none)))
    (λ f. f)

apart-filter : (q : Name → Bool) (ns : List Name) → Apart ns → Apart (filter q ns)
apart-filter q [] h = tt
apart-filter q (n ∷ ns) h = by (q n) (any-filter (is_at n) q ns h.0) (apart-filter q ns h.1)
  where
    by : (b : Bool) → list_any (is_at n) (filter q ns) ≡ false → Apart (filter q ns) → Apart (cond b (n ∷ filter q ns) (filter q ns))
    by true none rest = (none, rest)
    by false none rest = rest

any-append : (p : Name → Bool) (ms ns : List Name) → list_any p (ms ++ ns) ≡ (list_any p ms || list_any p ns)
any-append p [] ns = refl
any-append p (m ∷ ms) ns = ap (λ b. p m || b) (any-append p ms ns) ∙ sym (joined (p m) (list_any p ms) (list_any p ns))
  where
    joined : (a b c : Bool) → ((a || b) || c) ≡ (a || (b || c))
    joined true b c = refl
    joined false b c = refl

apart-append : (ms ns : List Name) → Apart ms → Apart ns → ((n : Name) → In n ms → list_any (is_at n) ns ≡ false) → Apart (ms ++ ns)
apart-append [] ns h k none = k
apart-append (m ∷ ms) ns h k none =
    (any-append (is_at m) ms ns ∙ ap (λ b. b || list_any (is_at m) ns) h.0 ∙ none m (inl refl), apart-append ms ns h.1 k (λ n i. none n (inr i)))

apart-names : (rs : List FileRecord) → NamesRise rs → Apart (map (λ r. r.name) rs)
apart-names [] h = tt
apart-names (r ∷ rs) h = let b = parts _ _ (passes _ h) in (none-below r.name rs b.0, apart-names rs (is_true _ b.1))

module _ (d : Identity) where
  -- of the keys after one, none is of its name and the device
  none-by : (n : Name) (es : List KeyedRecord) → T (below_all key_cmp (key n d) es) → list_any (is_at n) (names_by d es) ≡ false
  none-by n es b =
      by_or (list_any (is_at n) (names_by d es)) (list_any (is_at n) (names_by d es) ≡ false)
      (λ t.
      let found = any_in (is_at n) (names_by d es) t in
      let e = of_map (λ (x : KeyedRecord). x.0.name) (filter (is_by d) es) found.0 found.1 in
      let own = of_filter (is_by d) es e.0 e.1 in
      let name : n ≡ e.0.0.name = sym (same_bytes found.0 n (sym (tied-name n found.0) ∙ found.2)) ∙ sym e.2 in
      absurd (itself (key n d) e.0.0 (λ i. key (name i) (sym (same_bytes e.0.0.device d own.1) i)) (below es e.0 own.0 b)))
      (λ f. f)
    where
      itself : (k q : Key) → k ≡ q → key_cmp k q ≡ Less → ⊥
      itself k q s less = let e : Less ≡ Equal = sym less ∙ ap (key_cmp k) (sym s) ∙ tied_itself keys_total k in cc

      below : (es : List KeyedRecord) (x : KeyedRecord) → In x es → T (below_all key_cmp (key n d) es) → key_cmp (key n d) x.0 ≡ Less
      below [] x i b = absurd i
      below (e ∷ es) x (inl s) b = ap (λ (y : KeyedRecord). key_cmp (key n d) y.0) s ∙ is_less _ (parts _ _ b).0
      below (e ∷ es) x (inr i) b = below es x i (parts _ _ b).1

  apart-by : (es : List KeyedRecord) → T (is_sorted key_cmp es) → Apart (names_by d es)
  apart-by [] h = tt
  apart-by (e ∷ es) h =
      by_or (bytes_eq e.0.device d) (Apart (names_by d (e ∷ es)))
      (λ t. subst (λ b. Apart (map (λ (x : KeyedRecord). x.0.name) (cond b (e ∷ filter (is_by d) es) (filter (is_by d) es)))) (sym t)
      (none-by e.0.name es (subst (λ k. T (below_all key_cmp k es)) (λ i. key e.0.name (same_bytes e.0.device d t i)) (parts _ _ h).0), apart-by es (parts _ _ h).1))
      (λ f. subst (λ b. Apart (map (λ (x : KeyedRecord). x.0.name) (cond b (e ∷ filter (is_by d) es) (filter (is_by d) es)))) (sym f) (apart-by es (parts _ _ h).1))

  -- ---- each of them counts

  abbrev AreThere : List Name → Announced → Type 0
  AreThere ns a = (n : Name) → In n ns → is_some (get a (key n d)) ≡ true

  removed-counted : (n : Name) (s : IndexState) → is_some (get s.announced (key n d)) ≡ true → (without_record d n s).choices ≡ counted s.choices
  removed-counted n s there = ap (λ b. (cond b (record { me = s.me; announced = remove s.announced (key n d); choices = counted s.choices; promised = s.promised }) s).choices) there

  others-there : (n : Name) (ns : List Name) (s : IndexState) → list_any (is_at n) ns ≡ false → AreThere ns s.announced → AreThere ns (without_record d n s).announced
  others-there n ns s none there m i =
      ap is_some (one-cleared d n s (key m d))
      ∙ by_or (eq_by_cmp key_cmp (key m d) (key n d)) (is_some (cond (eq_by_cmp key_cmp (key m d) (key n d)) None (get s.announced (key m d))) ≡ true)
      (λ t. absurd (true≢false (sym (in_any (is_at n) ns m i (ap (is_at n) (ap (λ (k : Key). k.name) (same_key (key m d) (key n d) t)) ∙ ap is_eq (tied_itself bytes_total n))) ∙ none)))
      (λ f. ap (λ b. is_some (cond b None (get s.announced (key m d)))) f ∙ there m i)

  cleared-counted : (ns : List Name) (s : IndexState) → s.choices ≤ 2 ^ 64 - 1 → Apart ns → AreThere ns s.announced → (without_names d ns s).choices ≡ counted_more s.choices (length ns)
  cleared-counted [] s low apart there = omega arith
  cleared-counted (n ∷ ns) s low apart there =
      let one = removed-counted n s (there n (inl refl)) in
      let rest = cleared-counted ns (without_record d n s) (omega arith) apart.1 (others-there n ns s apart.0 (λ m i. there m (inr i))) in
      omega arith

  announced-there : (a : Announced) → AreThere (names_by d (entries a)) a
  announced-there a n i =
      let e = of_map (λ (x : KeyedRecord). x.0.name) (filter (is_by d) (entries a)) n i in
      let own = of_filter (is_by d) (entries a) e.0 e.1 in
      ap is_some ((λ j. get a (key (sym e.2 j) (sym (same_bytes e.0.0.device d own.1) j))) ∙ in_get keys_total exact_keys a e.0 own.0)

  pub forget-counted : (s : IndexState) → s.choices ≤ 2 ^ 64 - 1 → (without_device d s).choices ≡ counted_more s.choices (length (names_by d (entries s.announced)))
  forget-counted s low = cleared-counted (names_by d (entries s.announced)) s low (apart-by (entries s.announced) (entries_sorted s.announced)) (announced-there s.announced)

  -- ---- a full index

  module _ (records kept : List FileRecord) (l : IsLastOfEach records kept) (s : IndexState) (low : s.choices ≤ 2 ^ 64 - 1) where
    abbrev gone : List Name
    gone = stale d kept s.announced

    abbrev is_left : Name → Bool
    is_left n = not (list_any (λ r. bytes_eq r.name n) kept)

    gone-apart : Apart gone
    gone-apart = apart-filter is_left (names_by d (entries s.announced)) (apart-by (entries s.announced) (entries_sorted s.announced))

    gone-there : AreThere gone (with_records d kept s).announced
    gone-there n i =
        ap is_some (get-announce_own d kept s.announced n)
        ∙ some_or _ (get s.announced (key n d)) (announced-there s.announced n (of_filter is_left (names_by d (entries s.announced)) n i).0)
      where
        some_or : (o p : Option FileRecord) → is_some p ≡ true → is_some (option_or o p) ≡ true
        some_or None p e = e
        some_or (Some r) p e = refl

    all-apart : Apart (map (λ r. r.name) kept ++ gone)
    all-apart = apart-append (map (λ r. r.name) kept) gone (apart-names kept l.rise) gone-apart (λ n i.
        by_or (list_any (is_at n) gone) (list_any (is_at n) gone ≡ false)
        (λ t.
        let found = any_in (is_at n) gone t in
        let same : found.0 ≡ n = same_bytes found.0 n (sym (tied-name n found.0) ∙ found.2) in
        let left = (of_filter is_left (names_by d (entries s.announced)) found.0 found.1).1 in
        let has : list_any (λ r. bytes_eq r.name n) kept ≡ true = sym (has-name n kept) ∙ in_any (is_at n) (map (λ r. r.name) kept) n i (ap is_eq (tied_itself bytes_total n)) in
        absurd (true≢false (sym left ∙ ap is_left same ∙ ap not has)))
        (λ f. f))

    any-gone : (n : Name) → is_left n ≡ true → list_any (is_at n) gone ≡ list_any (is_at n) (names_by d (entries s.announced))
    any-gone n left = by (names_by d (entries s.announced))
      where
        by : (ns : List Name) → list_any (is_at n) (filter is_left ns) ≡ list_any (is_at n) ns
        by [] = refl
        by (m ∷ ns) =
            by_or (is_left m) (list_any (is_at n) (filter is_left (m ∷ ns)) ≡ list_any (is_at n) (m ∷ ns))
            (λ t. ap (λ b. list_any (is_at n) (cond b (m ∷ filter is_left ns) (filter is_left ns))) t ∙ ap (λ b. is_at n m || b) (by ns))
            (λ f.
            ap (λ b. list_any (is_at n) (cond b (m ∷ filter is_left ns) (filter is_left ns))) f ∙ by ns
            ∙ by_or (is_at n m) (list_any (is_at n) ns ≡ (is_at n m || list_any (is_at n) ns))
            (λ t. absurd (true≢false (sym left ∙ ap is_left (sym (same_bytes m n (sym (tied-name n m) ∙ t))) ∙ f)))
            (λ g. ap (λ b. b || list_any (is_at n) ns) (sym g)))

    all-names : from_list {R = bytes_cmp} (map (λ r. r.name) kept ++ gone) ≡ names_with records (names_by d (entries s.announced))
    all-names = same_set bytes_total exact_names _ _ (λ n.
        contains-from_list bytes_total (map (λ r. r.name) kept ++ gone) n
        ∙ any-append (is_at n) (map (λ r. r.name) kept) gone
        ∙ both n (list_any (is_at n) (map (λ r. r.name) kept)) refl
        ∙ ap (λ b. b || list_any (is_at n) (names_by d (entries s.announced))) (same-any n records kept l)
        ∙ sym (any-append (is_at n) (map (λ r. r.name) records) (names_by d (entries s.announced)))
        ∙ sym (contains-from_list bytes_total (map (λ r. r.name) records ++ names_by d (entries s.announced)) n))
      where
        both : (n : Name) (b : Bool) → list_any (is_at n) (map (λ r. r.name) kept) ≡ b → (list_any (is_at n) (map (λ r. r.name) kept) || list_any (is_at n) gone) ≡ (list_any (is_at n) (map (λ r. r.name) kept) || list_any (is_at n) (names_by d (entries s.announced)))
        both n true e = (λ i. e i || list_any (is_at n) gone) ∙ (λ i. sym e i || list_any (is_at n) (names_by d (entries s.announced)))
        both n false e = ap (λ b. list_any (is_at n) (map (λ r. r.name) kept) || b) (any-gone n (ap not (sym (has-name n kept) ∙ e)))

    pub full-counted : (full d records kept l s).choices ≡ counted_more s.choices (len (names_with records (names_by d (entries s.announced))))
    full-counted =
        let some = cleared-counted gone (with_records d kept s) (omega arith) gone-apart gone-there in
        let many : length kept + length gone ≡ len (names_with records (names_by d (entries s.announced))) =
        ap (λ k. k + length gone) (sym (length-map kept (λ (r : FileRecord). r.name))) ∙ sym (length-append (map (λ (r : FileRecord). r.name) kept) gone) ∙ sym (apart-counted (map (λ r. r.name) kept ++ gone) all-apart) ∙ ap len all-names in
        omega arith
