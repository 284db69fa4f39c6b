-- Pages of bests: each after the last name of the one before.
use Rattle.folder_core.proofs.BestList.{bests-announced, bests-listed}
use Rattle.folder_core.proofs.PullNeed.{Rising, bests-rising, rising-filter}
use Rattle.folder_core.proofs.Orders.{bytes_total}
use Rattle.folder_core.proofs.ListFilters.{filter_filter, none_left}
use Rattle.folder_core.proofs.ReadAnswers.{after_it, in_take, of_after, sorted_take, take_or_after}
use Rattle.folder_core.proofs.ListTests.{inside, In, in_contains, contains_in, in_filter, in_map, of_filter, of_map}
use Rattle.folder_core.specs.Announced.{KeyedRecord, IsNamed, best, bests}
use Rattle.folder_core.specs.Reads.{ArePages, BestEntry, IsAfter, best_with_devices, bests_after, bests_page, is_after, last_page, next_page, with_devices}
use Rattle.folder_core.specs.States.{FolderState}
use Rattle.std.proofs.Common.{◌≡◌, ℕ, zero, suc, ◌<◌, ◌≤◌, Bool, true, false, List, [], ◌∷◌, ◌++◌, ◌-◌, ◌⊎◌, length, take, append-nil, refl, sym, ap, subst, ◌∙◌, inl, inr, arith}
use Rattle.std.proofs.lemmas.List.{length-take, take_all}
use Rattle.std.proofs.lemmas.List.Folds.{flat_map-map}
use Rattle.std.specs.Cmp.{tied_itself}
use Rattle.std.specs.FinMap.{entries}
use Rattle.std.specs.List.{AllByRecursion}
use Rattle.std.specs.List.Sorted.{IsStrictlySortedBy}
use Rattle.std.specs.Ordering.{is_gt, ordering_reverse}
use Rattle.std.specs.Prelude.{◌&&◌, cond, filter, flat_map, map, slice_get, Option, Some, None, option_map, Contains}
use Rattle.std.specs.declared.cmp.Ordering.{Ordering}
use Rattle.std.specs.declared.cmp.Ordering.TheVariants.{Less}
use Rattle.std.proofs.lemmas.Option.{none-some}
use Rattle.sync_record.specs.Devices.{bytes_cmp}
use Rattle.sync_record.specs.Records.{Name, FileRecord}

-- by their names
abbrev pub found_cmp : BestEntry → BestEntry → Ordering
found_cmp b c = bytes_cmp b.0.name c.0.name

last_name : (front : List BestEntry) (b : BestEntry) → In b (front ++ b ∷ [])
last_name [] b = inl refl
last_name (c ∷ front) b = inr (last_name front b)

uncons : {A : Type 0} (x y : A) (xs ys : List A) → x ∷ xs ≡ y ∷ ys → (x ≡ y) × (xs ≡ ys)
uncons x y xs ys e = (cc, cc)

no_last : {A : Type 0} (front : List A) (b : A) → [] ≡ front ++ b ∷ [] → ⊥
no_last [] b e = cc
no_last (x ∷ front) b e = cc

greater_than : (m n : Name) → bytes_cmp m n ≡ Less → is_after (Some m) n ≡ true
greater_than m n less = ap is_gt (bytes_total.antisymm n m ∙ ap ordering_reverse less)

not_greater_than : (m n : Name) → bytes_cmp m n ≡ Less → is_after (Some n) m ≡ false
not_greater_than m n less = ap is_gt less

module _ (es : List KeyedRecord) where
  abbrev shown : KeyedRecord → BestEntry
  shown b = with_devices es b

  abbrev Named : List KeyedRecord → Type 0
  Named fs = (f : KeyedRecord) → In f fs → f.1.name ≡ f.0.name

  found_above : (f : KeyedRecord) (fs : List KeyedRecord) → Rising (f ∷ fs) → Named (f ∷ fs) → AllByRecursion (λ b. found_cmp (shown f) b ≡ Less) (map shown fs)
  found_above f [] rise named = tt
  found_above f (g ∷ fs) rise named = (
    (λ i. bytes_cmp (named f (inl refl) i) (named g (inr (inl refl)) i)) ∙ rise.0 g (inl refl),
    found_above f fs ((λ h i. rise.0 h (inr i)), rise.1.1) (λ h i. named h (skip h i)),
  )
    where
      skip : (h : KeyedRecord) → In h (f ∷ fs) → In h (f ∷ g ∷ fs)
      skip h (inl e) = inl e
      skip h (inr i) = inr (inr i)

  found-rise : (fs : List KeyedRecord) → Rising fs → Named fs → IsStrictlySortedBy found_cmp (map shown fs)
  unfolding IsStrictlySortedBy
  found-rise [] rise named = tt
  found-rise (f ∷ fs) rise named = (found_above f fs rise named, found-rise fs rise.1 (λ g i. named g (inr i)))

  -- those after the first one are all the others
  all_greater : (n : Name) (fs : List KeyedRecord) → ((f : KeyedRecord) → In f fs → bytes_cmp n f.0.name ≡ Less) → filter (λ f. is_after (Some n) f.0.name) fs ≡ fs
  all_greater n [] each = refl
  all_greater n (f ∷ fs) each = λ i. cond (greater_than n f.0.name (each f (inl refl)) i) (f ∷ all_greater n fs (λ g j. each g (inr j)) i) (all_greater n fs (λ g j. each g (inr j)) i)

  abbrev After : BestEntry → List KeyedRecord → List KeyedRecord
  After b fs = filter (λ f. is_after (Some b.0.name) f.0.name) fs

  not_after_itself : (f : KeyedRecord) (fs : List KeyedRecord) → Rising (f ∷ fs) → f.1.name ≡ f.0.name → After (shown f) (f ∷ fs) ≡ fs
  not_after_itself f fs rise named =
      (λ i. filter (λ g. is_after (Some (named i)) g.0.name) (f ∷ fs))
      ∙ ap (λ r. cond (is_gt r) (f ∷ filter (λ g. is_after (Some f.0.name) g.0.name) fs) (filter (λ g. is_after (Some f.0.name) g.0.name) fs)) (tied_itself bytes_total f.0.name)
      ∙ all_greater f.0.name fs rise.0

  skips_smaller : (f : KeyedRecord) (fs : List KeyedRecord) (b : BestEntry) → bytes_cmp f.0.name b.0.name ≡ Less → After b (f ∷ fs) ≡ After b fs
  skips_smaller f fs b less = ap (λ r. cond r (f ∷ After b fs) (After b fs)) (not_greater_than f.0.name b.0.name less)

  -- after a front of a rising list is what is after its last name
  next : (fs : List KeyedRecord) (k : ℕ) (front : List BestEntry) (b : BestEntry) → Rising fs → Named fs → take k (map shown fs) ≡ front ++ b ∷ [] → map shown fs ≡ (front ++ b ∷ []) ++ map shown (After b fs)
  next [] zero front b rise named is = absurd (no_last front b is)
  next [] (suc k) front b rise named is = absurd (no_last front b is)
  next (f ∷ fs) zero front b rise named is = absurd (no_last front b is)
  next (f ∷ fs) (suc k) [] b rise named is =
      let parts = uncons (shown f) b (take k (map shown fs)) [] is in
      (λ i. parts.0 i ∷ map shown (sym (not_after_itself f fs rise (named f (inl refl))) i))
      ∙ (λ i. b ∷ map shown (After (parts.0 i) (f ∷ fs)))
  next (f ∷ fs) (suc k) (c ∷ front) b rise named is =
      let parts = uncons (shown f) c (take k (map shown fs)) (front ++ b ∷ []) is in
      let listed = of_map shown fs b (in_take k (map shown fs) b (subst (In b) (sym parts.1) (last_name front b))) in
      let less : bytes_cmp f.0.name b.0.name ≡ Less =
      (λ i. bytes_cmp f.0.name ((ap (λ (x : BestEntry). x.0.name) (sym listed.2) ∙ named listed.0 (inr listed.1)) i)) ∙ rise.0 listed.0 listed.1 in
      (λ i. parts.0 i ∷ next fs k front b rise.1 (λ g j. named g (inr j)) parts.1 i)
      ∙ (λ i. (c ∷ front ++ b ∷ []) ++ map shown (sym (skips_smaller f fs b less) i))

module _ (s : FolderState) (named : IsNamed s.announced) where
  abbrev bs : List KeyedRecord
  bs = bests (entries s.announced)

  abbrev is_listed_after : Option Name → KeyedRecord → Bool
  is_listed_after after f = is_after after f.0.name

  abbrev listed : Option Name → List KeyedRecord
  listed after = filter (is_listed_after after) bs

  bests-named : (f : KeyedRecord) → In f bs → f.1.name ≡ f.0.name
  bests-named f i = named f.0 f.1 (bests-announced s.announced f i)

  listed-named : (after : Option Name) (f : KeyedRecord) → In f (listed after) → f.1.name ≡ f.0.name
  listed-named after f i = bests-named f (of_filter (is_listed_after after) bs f i).0

  listed-rising : (after : Option Name) → Rising (listed after)
  listed-rising after = rising-filter (is_listed_after after) bs (bests-rising s.announced)

  -- a name after one that is after another is after both
  later : (after : Option Name) (m n : Name) → is_after after m ≡ true → is_after (Some m) n ≡ true → is_after after n ≡ true
  later after m n p q = of_after after n (λ a is.
      let above : bytes_cmp a m ≡ Less = bytes_total.antisymm a m ∙ ap ordering_reverse (after_it after m p a is) in
      let over : bytes_cmp m n ≡ Less = bytes_total.antisymm m n ∙ ap ordering_reverse (after_it (Some m) n q m refl) in
      bytes_total.antisymm n a ∙ ap ordering_reverse (bytes_total.trans a m n above over))

  listed-later : (after : Option Name) (m : Name) → is_after after m ≡ true → filter (is_listed_after (Some m)) (listed after) ≡ listed (Some m)
  listed-later after m p = filter_filter (is_listed_after after) (is_listed_after (Some m)) (is_listed_after (Some m)) bs (λ f.
      elim (is_after (Some m) f.0.name) as (λ b. is_after (Some m) f.0.name ≡ b → b ≡ (is_after after f.0.name && b)) [
        | true ↦ λ t. sym (ap (λ b. b && true) (later after m f.0.name p t))
        | false ↦ λ t. sym (none_left (is_after after f.0.name))
      ] refl)

  pub bests_after-next : (after : Option Name) (limit : ℕ) (front : List BestEntry) (b : BestEntry) → bests_page s after limit ≡ front ++ b ∷ [] → bests_after s after ≡ (front ++ b ∷ []) ++ bests_after s (Some b.0.name)
  bests_after-next after limit front b is =
      let es = entries s.announced in
      let at = of_map (with_devices es) (listed after) b (in_take limit (bests_after s after) b (subst (In b) (sym is) (last_name front b))) in
      let kept = of_filter (is_listed_after after) bs at.0 at.1 in
      let name : at.0.0.name ≡ b.0.name = sym (bests-named at.0 kept.0) ∙ ap (λ (x : BestEntry). x.0.name) at.2 in
      next es (listed after) limit front b (listed-rising after) (listed-named after) is
      ∙ ap (λ fs. (front ++ b ∷ []) ++ map (with_devices es) fs) (listed-later after b.0.name (subst (λ n. is_after after n ≡ true) name kept.1))

  -- a page with room has all the rest
  pub bests_after-short : (after : Option Name) (limit : ℕ) → length (bests_page s after limit) < limit → bests_page s after limit ≡ bests_after s after
  bests_after-short after limit short =
      let cut = length-take limit (bests_after s after) in
      take_all limit (bests_after s after) (omega arith)

  pub pages-together : (limit : ℕ) (after : Option Name) (pages : List (List BestEntry)) → ArePages s limit after pages → flat_map (λ page. page) pages ≡ bests_after s after
  pages-together limit after pages (last_page after' page reads short) =
      append-nil page ∙ reads ∙ bests_after-short after limit (subst (λ (p : List BestEntry). length p < limit) reads short)
  pages-together limit after pages (next_page after' front b pages' reads rest) =
      ap (λ bs. (front ++ b ∷ []) ++ bs) (pages-together limit (Some b.0.name) pages' rest)
      ∙ sym (bests_after-next after limit front b (sym reads))

  bests_after-rise : (after : Option Name) → IsStrictlySortedBy found_cmp (bests_after s after)
  bests_after-rise after = found-rise (entries s.announced) (listed after) (listed-rising after) (listed-named after)

  names_above : (b : BestEntry) (page : List BestEntry) → AllByRecursion (λ c. found_cmp b c ≡ Less) page → AllByRecursion (λ m. bytes_cmp b.0.name m ≡ Less) (map (λ c. c.0.name) page)
  names_above b [] h = tt
  names_above b (c ∷ page) h = (h.0, names_above b page h.1)

  names_rise : (page : List BestEntry) → IsStrictlySortedBy found_cmp page → IsStrictlySortedBy bytes_cmp (map (λ b. b.0.name) page)
  unfolding IsStrictlySortedBy
  names_rise [] h = tt
  names_rise (b ∷ page) h = (names_above b page h.0, names_rise page h.1)

  pub bests-page_rises : (after : Option Name) (limit : ℕ) → IsStrictlySortedBy bytes_cmp (map (λ b. b.0.name) (bests_page s after limit))
  bests-page_rises after limit = names_rise (bests_page s after limit) (sorted_take found_cmp limit (bests_after s after) (bests_after-rise after))

  pub bests-page_of : (after : Option Name) (limit : ℕ) (b : BestEntry) → Contains (bests_page s after limit) b → (Some b ≡ best_with_devices s b.0.name) × IsAfter after b.0.name
  bests-page_of after limit b c =
      let es = entries s.announced in
      let at = of_map (with_devices es) (listed after) b (in_take limit (bests_after s after) b (contains_in _ b c)) in
      let kept = of_filter (is_listed_after after) bs at.0 at.1 in
      let name : at.0.0.name ≡ b.0.name = sym (bests-named at.0 kept.0) ∙ ap (λ (x : BestEntry). x.0.name) at.2 in (
        sym (ap (option_map (with_devices es)) ((bests-listed s.announced b.0.name at.0).0 (in_contains bs at.0 kept.0, name)) ∙ ap Some at.2),
        after_it after b.0.name (subst (λ n. is_after after n ≡ true) name kept.1),
      )

module _ (s : FolderState) (after : Option Name) (n : Name) (is_after_it : IsAfter after n) where
  abbrev es : List KeyedRecord
  es = entries s.announced

  abbrev Found_at : BestEntry → Type 0
  Found_at b = (e : KeyedRecord) × In e (filter (λ f. is_after after f.0.name) (bests es)) × (e.0.name ≡ n) × (with_devices es e ≡ b)

  found_at : (b : BestEntry) (o : Option KeyedRecord) → best es n ≡ o → Some b ≡ option_map (with_devices es) o → Found_at b
  found_at b None is e = absurd (none-some b (sym e))
  found_at b (Some f) is e =
      let t = (bests-listed s.announced n f).1 is in
      (f, in_filter (λ g. is_after after g.0.name) (bests es) f (contains_in (bests es) f t.0) (subst (λ m. is_after after m ≡ true) (sym t.1) (of_after after n is_after_it)), t.1, sym (inside b (with_devices es f) e))

  pub found_after : (b : BestEntry) → Some b ≡ best_with_devices s n → Found_at b
  found_after b e = found_at b (best es n) refl e

  pub listed_after : (b : BestEntry) → Some b ≡ best_with_devices s n → In b (bests_after s after)
  listed_after b e =
      let f = found_after b e in
      subst (λ x. In x (bests_after s after)) f.3 (in_map (with_devices es) (filter (λ g. is_after after g.0.name) (bests es)) f.0 f.1)

  some_left : {A : Type 0} (k : ℕ) (xs : List A) (x : A) → 1 ≤ k → [] ≡ take k xs → In x xs → ⊥
  some_left zero xs x one e i = absurd (omega arith)
  some_left (suc k) [] x one e i = i
  some_left (suc k) (y ∷ ys) x one e i = let c : [] ≡ y ∷ take k ys = e in cc

  -- an empty page comes only where there is no best after
  pub bests-page_end : (limit : ℕ) → 1 ≤ limit → [] ≡ bests_page s after limit → None ≡ best_with_devices s n
  bests-page_end limit one e = none (best_with_devices s n) refl
    where
      none : (o : Option BestEntry) → best_with_devices s n ≡ o → None ≡ o
      none None is = refl
      none (Some b) is = absurd (some_left limit (bests_after s after) b one e (listed_after b (sym is)))

  pub bests-page_has : IsNamed s.announced → (limit : ℕ) (b : BestEntry) → Some b ≡ best_with_devices s n
      → Contains (bests_page s after limit) b ⊎ ((length (bests_page s after limit) ≡ limit) × ((c : BestEntry) → Contains (bests_page s after limit) c → bytes_cmp c.0.name n ≡ Less))
  bests-page_has named limit b e =
      by (take_or_after found_cmp limit (bests_after s after) b (bests_after-rise s named after) (listed_after b e))
    where
      name : b.0.name ≡ n
      name =
          let f = found_after b e in
          ap (λ (x : BestEntry). x.0.name) (sym f.3) ∙ listed-named s named after f.0 f.1 ∙ f.2

      by : In b (bests_page s after limit) ⊎ ((length (bests_page s after limit) ≡ limit) × ((c : BestEntry) → In c (bests_page s after limit) → found_cmp c b ≡ Less))
          → Contains (bests_page s after limit) b ⊎ ((length (bests_page s after limit) ≡ limit) × ((c : BestEntry) → Contains (bests_page s after limit) c → bytes_cmp c.0.name n ≡ Less))
      by (inl i) = inl (in_contains _ b i)
      by (inr h) = inr (h.0, λ c d. subst (λ m. bytes_cmp c.0.name m ≡ Less) name (h.1 c (contains_in _ c d)))

-- after no name are all of them
pub bests_after-none : (s : FolderState) → bests_after s None ≡ map (with_devices (entries s.announced)) (bests (entries s.announced))
bests_after-none s = ap (map (with_devices (entries s.announced))) (all_kept (bests (entries s.announced)))
  where
    all_kept : (fs : List KeyedRecord) → filter (λ f. is_after None f.0.name) fs ≡ fs
    all_kept [] = refl
    all_kept (f ∷ fs) = ap (λ l. f ∷ l) (all_kept fs)

-- what is made of each best's record
pub bests_after-lines : {A : Type 0} (s : FolderState) (line : FileRecord → List A) → flat_map (λ b. line b.0) (bests_after s None) ≡ flat_map (λ e. line e.1) (bests (entries s.announced))
bests_after-lines s line =
    ap (flat_map (λ b. line b.0)) (bests_after-none s)
    ∙ flat_map-map (λ (b : BestEntry). line b.0) (with_devices (entries s.announced)) (bests (entries s.announced))

-- a page and what is after its last element
split_last : {A : Type 0} (xs : List A) (b : A) → slice_get xs (length xs - 1) ≡ Some b → (front : List A) × (xs ≡ front ++ b ∷ [])
split_last [] b is = absurd (none-some b is)
split_last (x ∷ []) b is = ([], ap (λ y. y ∷ []) (inside x b is))
split_last (x ∷ y ∷ xs) b is =
    let less : length (x ∷ y ∷ xs) - 1 ≡ suc (length (y ∷ xs) - 1) = omega arith in
    let later : slice_get (y ∷ xs) (length (y ∷ xs) - 1) ≡ Some b = ap (slice_get (x ∷ y ∷ xs)) (sym less) ∙ is in
    let rest = split_last (y ∷ xs) b later in
    (x ∷ rest.0, λ i. x ∷ rest.1 i)

pub bests_after-page : (s : FolderState) → IsNamed s.announced → (after : Option Name) (limit : ℕ) (page : List BestEntry) (b : BestEntry) →
    page ≡ bests_page s after limit → slice_get page (length page - 1) ≡ Some b → bests_after s after ≡ page ++ bests_after s (Some b.0.name)
bests_after-page s named after limit page b is last =
    let split = split_last page b last in
    bests_after-next s named after limit split.0 b (sym is ∙ split.1) ∙ ap (λ p. p ++ bests_after s (Some b.0.name)) (sym split.1)
