-- What the reads of a folder say of its state.
use Rattle.std.proofs.Common.{◌≡◌, ◌≢◌, ◌↔◌, ℕ, zero, suc, ◌≤◌, Bool, true, false, List, [], ◌∷◌, ◌++◌, length, refl, sym, ap, subst, ◌∙◌, arith, ◌⊎◌, inl, inr}
use Rattle.std.specs.Prelude.{bytes_eq, nat_le, max, map, filter, fold, take, flat_map, Option, Some, None, option_map, Contains, IsTrue}
use Rattle.std.specs.Ordering.{is_gt}
use Rattle.std.specs.declared.cmp.Ordering.{Ordering}
use Rattle.std.specs.declared.cmp.Ordering.TheVariants.{Less, Equal, Greater}
use Rattle.std.specs.FinMap.{get, entries}
use Rattle.std.specs.List.{AllByRecursion}
use Rattle.std.specs.List.Sorted.{IsStrictlySortedBy}
use Rattle.std.proofs.lemmas.Bool.{true≢false, false_from_ne_true, cond-true, cond-false, leb-true, leb-false}
use Rattle.std.proofs.lemmas.List.{length-take}
use Rattle.std.proofs.lemmas.List.Kept.{IsStrictlySortedBy-filter}
use Rattle.std.proofs.lemmas.List.Concat.{flat_map-cons}
use Rattle.std.proofs.lemmas.Slice.Eq.{bytes_eq-Decides}
use Rattle.std.proofs.lemmas.Option.{none-some}
use Rattle.folder_core.specs.declared.place.Place.{Place}
use Rattle.sync_blocks.specs.declared.block.Block.{Block}
use Rattle.sync_record.specs.Contents.{same_content}
use Rattle.sync_record.specs.Devices.{Identity, bytes_cmp}
use Rattle.sync_record.specs.Records.{Name, FileRecord, is_live_file}
use Rattle.sync_record.specs.Validity.{is_valid}
use Rattle.folder_core.specs.Announced.{Announced, KeyedRecord, key, is_by, best, devices_of, IsBest}
use Rattle.folder_core.specs.States.{FolderState, local, need}
use Rattle.folder_core.specs.Reads.{IsAfter, is_after, locals, best_with_devices, need_page, places, known, IsSomePlace}
use Rattle.folder_core.proofs.Orders.{keys_total, exact_keys}
use Rattle.folder_core.proofs.BestRule.{best-found, best-none}
use Rattle.folder_core.proofs.BestDevices.{devices-rise, devices-listed}
use Rattle.folder_core.proofs.PullNeed.{need-rising}
use Rattle.folder_core.proofs.ListTests.{inside, In, in_contains, contains_in, in_map, of_map, in_filter, of_filter, get_in, in_get}

-- ---- the best, with its devices

abbrev pub HasBestOf : Announced → Name → FileRecord → Identity → Type 0
HasBestOf a n r d = (q : FileRecord) × (get a (key n d) ≡ Some q) × IsTrue (is_valid q) × (q.version ≡ r.version) × IsTrue (same_content q r)

abbrev pub BestFound : FolderState → Name → FileRecord → List Identity → Type 0
BestFound s n r ds =
    (d : Identity) × IsBest s.announced n d r × IsStrictlySortedBy bytes_cmp ds × ((e : Identity) → Contains ds e ↔ HasBestOf s.announced n r e)

module _ (s : FolderState) (n : Name) where
  abbrev shown : Option KeyedRecord → Option (FileRecord × List Identity)
  shown o = option_map (λ b. (b.1, devices_of (entries s.announced) b)) o

  best-by : (o : Option KeyedRecord) → best (entries s.announced) n ≡ o → (r : FileRecord) (ds : List Identity) → Some (r, ds) ≡ shown o → BestFound s n r ds
  best-by None is r ds e = absurd (none-some (r, ds) (sym e))
  best-by (Some b) is r ds e =
      let same : (b.1, devices_of (entries s.announced) b) ≡ (r, ds) = inside (b.1, devices_of (entries s.announced) b) (r, ds) (sym e) in
      subst (λ (x : FileRecord × List Identity). BestFound s n x.0 x.1) same
      (b.0.device, (best-found s.announced n b is).1, devices-rise s.announced b, λ d. devices-listed s.announced n b d is)

  pub best-read : (r : FileRecord) (ds : List Identity) → Some (r, ds) ≡ best_with_devices s n → BestFound s n r ds
  best-read r ds e = best-by (best (entries s.announced) n) refl r ds e

  none-by : (o : Option KeyedRecord) → None ≡ shown o → o ≡ None
  none-by None e = refl
  none-by (Some b) e = absurd (none-some (b.1, devices_of (entries s.announced) b) e)

  pub no_best-read : None ≡ best_with_devices s n → (d : Identity) (r : FileRecord) → get s.announced (key n d) ≡ Some r → is_valid r ≡ false
  no_best-read e = (best-none s.announced n).0 (none-by (best (entries s.announced) n) e)

-- ---- pages of needed names

module _ {A : Type 0} where
  pub in_take : (k : ℕ) (xs : List A) (x : A) → In x (take k xs) → In x xs
  in_take zero xs x i = absurd i
  in_take (suc k) [] x i = absurd i
  in_take (suc k) (y ∷ ys) x (inl e) = inl e
  in_take (suc k) (y ∷ ys) x (inr i) = inr (in_take k ys x i)

  all_take : (P : A → Type 0) (k : ℕ) (xs : List A) → AllByRecursion P xs → AllByRecursion P (take k xs)
  all_take P zero xs all = tt
  all_take P (suc k) [] all = tt
  all_take P (suc k) (y ∷ ys) all = (all.0, all_take P k ys all.1)

  pub all_at : (P : A → Type 0) (xs : List A) (x : A) → AllByRecursion P xs → In x xs → P x
  all_at P [] x all i = absurd i
  all_at P (y ∷ ys) x all (inl e) = subst P (sym e) all.0
  all_at P (y ∷ ys) x all (inr i) = all_at P ys x all.1 i

module _ {A : Type 0} (c : A → A → Ordering) where
  pub sorted_take : (k : ℕ) (xs : List A) → IsStrictlySortedBy c xs → IsStrictlySortedBy c (take k xs)
  unfolding IsStrictlySortedBy
  sorted_take zero xs s = tt
  sorted_take (suc k) [] s = tt
  sorted_take (suc k) (y ∷ ys) s = (all_take (λ z. c y z ≡ Less) k ys s.0, sorted_take k ys s.1)

  -- of a rising list an element is in the front, or after a whole front
  pub take_or_after : (k : ℕ) (xs : List A) (x : A) → IsStrictlySortedBy c xs → In x xs → In x (take k xs) ⊎ ((length (take k xs) ≡ k) × ((y : A) → In y (take k xs) → c y x ≡ Less))
  unfolding IsStrictlySortedBy
  take_or_after zero xs x s i = inr (refl, λ y j. absurd j)
  take_or_after (suc k) [] x s i = absurd i
  take_or_after (suc k) (z ∷ zs) x s (inl e) = inl (inl e)
  take_or_after (suc k) (z ∷ zs) x s (inr i) = by (take_or_after k zs x s.1 i)
    where
      ahead : ((y : A) → In y (take k zs) → c y x ≡ Less) → (y : A) → In y (z ∷ take k zs) → c y x ≡ Less
      ahead each y (inl e) = ap (λ w. c w x) e ∙ all_at (λ w. c z w ≡ Less) zs x s.0 i
      ahead each y (inr j) = each y j

      by : In x (take k zs) ⊎ ((length (take k zs) ≡ k) × ((y : A) → In y (take k zs) → c y x ≡ Less))
          → In x (take (suc k) (z ∷ zs)) ⊎ ((length (take (suc k) (z ∷ zs)) ≡ suc k) × ((y : A) → In y (take (suc k) (z ∷ zs)) → c y x ≡ Less))
      by (inl j) = inl (inr j)
      by (inr h) = inr (ap suc h.0, ahead h.1)

greater : (r : Ordering) → is_gt r ≡ true → r ≡ Greater
greater Greater e = refl
greater Less e = absurd (true≢false (sym e))
greater Equal e = absurd (true≢false (sym e))

module _ (after : Option Name) where
  pub after_it : (n : Name) → is_after after n ≡ true → IsAfter after n
  after_it n e a is = greater (bytes_cmp n a) (sym (ap (λ o. is_after o n) is) ∙ e)

  pub of_after : (n : Name) → IsAfter after n → is_after after n ≡ true
  of_after n each =
      elim after as (λ o. ((a : Name) → o ≡ Some a → bytes_cmp n a ≡ Greater) → is_after o n ≡ true) [
        | None ↦ λ _. refl
        | Some a ↦ λ f. ap is_gt (f a refl)
      ] each

module _ (s : FolderState) (after : Option Name) (limit : ℕ) where
  pub need-page_rises : IsStrictlySortedBy bytes_cmp (need_page s after limit)
  need-page_rises = sorted_take bytes_cmp limit (filter (is_after after) (need s)) (IsStrictlySortedBy-filter bytes_cmp (is_after after) (need s) (need-rising s))

  pub need-page_fits : length (need_page s after limit) ≤ limit
  need-page_fits = let e = length-take limit (filter (is_after after) (need s)) in omega arith

  pub need-page_of : (n : Name) → Contains (need_page s after limit) n → Contains (need s) n × IsAfter after n
  need-page_of n c =
      let r = of_filter (is_after after) (need s) n (in_take limit (filter (is_after after) (need s)) n (contains_in _ n c)) in
      (in_contains (need s) n r.0, after_it after n r.1)

  pub need-page_has : (n : Name) → Contains (need s) n → IsAfter after n
      → Contains (need_page s after limit) n ⊎ ((length (need_page s after limit) ≡ limit) × ((m : Name) → Contains (need_page s after limit) m → bytes_cmp m n ≡ Less))
  need-page_has n c b =
      by (take_or_after bytes_cmp limit (filter (is_after after) (need s)) n (IsStrictlySortedBy-filter bytes_cmp (is_after after) (need s) (need-rising s))
      (in_filter (is_after after) (need s) n (contains_in (need s) n c) (of_after after n b)))
    where
      by : In n (need_page s after limit) ⊎ ((length (need_page s after limit) ≡ limit) × ((m : Name) → In m (need_page s after limit) → bytes_cmp m n ≡ Less))
          → Contains (need_page s after limit) n ⊎ ((length (need_page s after limit) ≡ limit) × ((m : Name) → Contains (need_page s after limit) m → bytes_cmp m n ≡ Less))
      by (inl i) = inl (in_contains _ n i)
      by (inr h) = inr (h.0, λ m d. h.1 m (contains_in _ m d))

-- ---- local records, and places of blocks in them

pub own-listed : (s : FolderState) (n : Name) (r : FileRecord) → local s n ≡ Some r → In r (locals s)
own-listed s n r g =
    in_map (λ (e : KeyedRecord). e.1) (filter (is_by s.me) (entries s.announced)) (key n s.me, r)
    (in_filter (is_by s.me) (entries s.announced) (key n s.me, r) (get_in keys_total exact_keys s.announced (key n s.me) r g) ((bytes_eq-Decides s.me s.me).1 refl))

-- what a device announced
by_device : (s : FolderState) (d : Identity) (e : KeyedRecord) → In e (filter (is_by d) (entries s.announced)) → get s.announced (key e.0.name d) ≡ Some e.1
by_device s d e i =
    let r = of_filter (is_by d) (entries s.announced) e i in
    (λ j. get s.announced (key e.0.name (sym ((bytes_eq-Decides e.0.device d).0 r.1) j))) ∙ in_get keys_total exact_keys s.announced e r.0

pub listed-own : (s : FolderState) (r : FileRecord) → In r (locals s) → (n : Name) × (local s n ≡ Some r)
listed-own s r i =
    let m = of_map (λ (e : KeyedRecord). e.1) (filter (is_by s.me) (entries s.announced)) r i in
    (m.0.0.name, by_device s s.me m.0 m.1 ∙ ap Some m.2)

module _ {A : Type 0} where
  pub in_left : (xs ys : List A) (x : A) → In x xs → In x (xs ++ ys)
  in_left [] ys x i = absurd i
  in_left (z ∷ zs) ys x (inl e) = inl e
  in_left (z ∷ zs) ys x (inr i) = inr (in_left zs ys x i)

  pub in_right : (xs ys : List A) (x : A) → In x ys → In x (xs ++ ys)
  in_right [] ys x i = i
  in_right (z ∷ zs) ys x i = inr (in_right zs ys x i)

  of_append : (xs ys : List A) (x : A) → In x (xs ++ ys) → In x xs ⊎ In x ys
  of_append [] ys x i = inr i
  of_append (z ∷ zs) ys x (inl e) = inl (inl e)
  of_append (z ∷ zs) ys x (inr i) = by (of_append zs ys x i)
    where
      by : In x zs ⊎ In x ys → In x (z ∷ zs) ⊎ In x ys
      by (inl j) = inl (inr j)
      by (inr j) = inr j

module _ {A B : Type 0} (f : A → List B) where
  pub in_flat_map : (xs : List A) (x : A) (y : B) → In x xs → In y (f x) → In y (flat_map f xs)
  in_flat_map [] x y i j = absurd i
  in_flat_map (z ∷ zs) x y (inl e) j = subst (In y) (sym (flat_map-cons f z zs)) (in_left (f z) (flat_map f zs) y (subst (λ w. In y (f w)) e j))
  in_flat_map (z ∷ zs) x y (inr i) j = subst (In y) (sym (flat_map-cons f z zs)) (in_right (f z) (flat_map f zs) y (in_flat_map zs x y i j))

  of_flat_map : (xs : List A) (y : B) → In y (flat_map f xs) → (x : A) × In x xs × In y (f x)
  of_flat_map [] y i = absurd i
  of_flat_map (z ∷ zs) y i = by (of_flat_map zs y) (of_append (f z) (flat_map f zs) y (subst (In y) (flat_map-cons f z zs) i))
    where
      by : (In y (flat_map f zs) → (x : A) × In x zs × In y (f x)) → In y (f z) ⊎ In y (flat_map f zs) → (x : A) × In x (z ∷ zs) × In y (f x)
      by rest (inl j) = (z, inl refl, j)
      by rest (inr j) = let r = rest j in (r.0, inr r.1, r.2)

-- a block of this digest is there in a live local file
abbrev pub IsPlaceOf : FolderState → List ℕ → Place → Type 0
IsPlaceOf s hash p =
    (n : Name) × (r : FileRecord) × (b : Block) × (local s n ≡ Some r) × IsTrue (is_live_file r) × Contains r.blocks b × (b.hash ≡ hash)
    × (p ≡ record { name = r.name; offset = b.offset; size = b.size })

module _ (s : FolderState) (hash : List ℕ) where
  abbrev is_wanted : Block → Bool
  is_wanted b = bytes_eq b.hash hash

  abbrev place_in : FileRecord → Block → Place
  place_in r b = record { name = r.name; offset = b.offset; size = b.size }

  abbrev places_in : FileRecord → List Place
  places_in r = map (place_in r) (filter is_wanted r.blocks)

  pub place-listed : (p : Place) → IsPlaceOf s hash p → In p (places s hash)
  place-listed p h =
      let r : FileRecord = h.1 in
      let b : Block = h.2 in
      subst (λ x. In x (places s hash)) (sym h.7)
      (in_flat_map places_in (filter is_live_file (locals s)) r (place_in r b)
      (in_filter is_live_file (locals s) r (own-listed s h.0 r h.3) h.4)
      (in_map (place_in r) (filter is_wanted r.blocks) b (in_filter is_wanted r.blocks b (contains_in r.blocks b h.5) ((bytes_eq-Decides b.hash hash).1 h.6))))

  pub listed-place : (p : Place) → In p (places s hash) → IsPlaceOf s hash p
  listed-place p i =
      let x = of_flat_map places_in (filter is_live_file (locals s)) p i in
      let r : FileRecord = x.0 in
      let file = of_filter is_live_file (locals s) r x.1 in
      let own = listed-own s r file.0 in
      let y = of_map (place_in r) (filter is_wanted r.blocks) p x.2 in
      let b : Block = y.0 in
      let wanted = of_filter is_wanted r.blocks b y.1 in
      (own.0, r, b, own.1, file.1, in_contains r.blocks b wanted.0, (bytes_eq-Decides b.hash hash).0 wanted.1, sym y.2)

  pub place-read : (p : Place) → IsSomePlace s hash (Some p) ↔ IsPlaceOf s hash p
  place-read p = (λ c. listed-place p (contains_in (places s hash) p c), λ h. in_contains (places s hash) p (place-listed p h))

  none-of : (ps : List Place) → ((p : Place) → In p ps → ⊥) → ps ≡ []
  none-of [] none = refl
  none-of (p ∷ ps) none = absurd (none p (inl refl))

  pub no_place-read : IsSomePlace s hash None ↔ ((p : Place) → ¬ (IsPlaceOf s hash p))
  no_place-read = (
    λ e p h. subst (In p) e (place-listed p h),
    λ none. none-of (places s hash) (λ p i. none p (listed-place p i)),
  )

-- ---- the greatest sequence of a device

max-is : (a b : ℕ) → (max a b ≡ a) ⊎ (max a b ≡ b)
max-is a b =
    elim (nat_le a b) as (λ t. nat_le a b ≡ t → (max a b ≡ a) ⊎ (max a b ≡ b)) [
      | true ↦ λ e. inr (let le = leb-true a b e in omega arith)
      | false ↦ λ e. inl (let lt = leb-false a b e in omega arith)
    ] refl

greatest-above : (a : ℕ) (xs : List ℕ) → a ≤ fold max a xs
greatest-above a [] = omega arith
greatest-above a (x ∷ xs) = let r = greatest-above (max a x) xs in omega arith

greatest-of : (a : ℕ) (xs : List ℕ) (x : ℕ) → In x xs → x ≤ fold max a xs
greatest-of a [] x i = absurd i
greatest-of a (y ∷ ys) x (inl e) = let r = greatest-above (max a y) ys in omega arith
greatest-of a (y ∷ ys) x (inr i) = greatest-of (max a y) ys x i

greatest-in : (a : ℕ) (xs : List ℕ) → (fold max a xs ≡ a) ⊎ In (fold max a xs) xs
greatest-in a [] = inl refl
greatest-in a (x ∷ xs) = by (greatest-in (max a x) xs) (max-is a x)
  where
    by : (fold max (max a x) xs ≡ max a x) ⊎ In (fold max (max a x) xs) xs → (max a x ≡ a) ⊎ (max a x ≡ x) → (fold max (max a x) xs ≡ a) ⊎ In (fold max (max a x) xs) (x ∷ xs)
    by (inl e) (inl f) = inl (e ∙ f)
    by (inl e) (inr f) = inr (inl (e ∙ f))
    by (inr i) f = inr (inr i)

pub known-own : (s : FolderState) → known s s.me ≡ s.last
known-own s = cond-true (bytes_eq s.me s.me) s.last _ ((bytes_eq-Decides s.me s.me).1 refl)

module _ (s : FolderState) (d : Identity) (other : d ≢ s.me) where
  abbrev theirs : List KeyedRecord
  theirs = filter (is_by d) (entries s.announced)

  abbrev sequences : List ℕ
  sequences = map (λ e. e.1.sequence) theirs

  known-is : known s d ≡ fold max 0 sequences
  known-is = cond-false (bytes_eq d s.me) s.last _ (false_from_ne_true (bytes_eq d s.me) (λ t. other ((bytes_eq-Decides d s.me).0 t)))

  pub known-greatest : (n : Name) (r : FileRecord) → get s.announced (key n d) ≡ Some r → r.sequence ≤ known s d
  known-greatest n r g =
      let i = in_filter (is_by d) (entries s.announced) (key n d, r) (get_in keys_total exact_keys s.announced (key n d) r g) ((bytes_eq-Decides d d).1 refl) in
      let e = greatest-of 0 sequences r.sequence (in_map (λ (x : KeyedRecord). x.1.sequence) theirs (key n d, r) i) in
      let k = known-is in
      omega arith

  pub known-reached : (known s d ≡ 0) ⊎ ((n : Name) × (r : FileRecord) × (get s.announced (key n d) ≡ Some r) × (r.sequence ≡ known s d))
  known-reached = by (greatest-in 0 sequences)
    where
      by : (fold max 0 sequences ≡ 0) ⊎ In (fold max 0 sequences) sequences → (known s d ≡ 0) ⊎ ((n : Name) × (r : FileRecord) × (get s.announced (key n d) ≡ Some r) × (r.sequence ≡ known s d))
      by (inl e) = inl (known-is ∙ e)
      by (inr i) =
          let m = of_map (λ (x : KeyedRecord). x.1.sequence) theirs (fold max 0 sequences) i in
          inr (m.0.0.name, m.0.1, by_device s d m.0 m.1, m.2 ∙ sym known-is)
