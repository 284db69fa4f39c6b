-- How many names can have a new best.
use Rattle.std.proofs.Common.{◌≡◌, ◌≢◌, ◌⊎◌, inl, inr, ℕ, zero, suc, ◌+◌, ◌-◌, ◌^◌, ◌<◌, ◌≤◌, Bool, true, false, List, [], ◌∷◌, ◌++◌, length, min, get_or, refl, sym, ap, subst, ◌∙◌, arith}
use Rattle.std.specs.Prelude.{◌||◌, All, AllPairs, bytes_eq, cond, filter, map, not, Option, Some, None}
use Rattle.std.specs.Cmp.{Equal-is, tied_itself}
use Rattle.std.specs.FinMap.{contains_key, entries, get, insert, remove}
use Rattle.std.specs.FinSet as set
use Rattle.std.specs.FinSet.{contains, contains-empty, contains-from_list, contains-remove, empty_of_len, from_list, len, len-empty, len-insert, len-remove}
use Rattle.std.specs.List.{list_any}
use Rattle.std.specs.Ordering.{eq_by_cmp, is_eq}
use Rattle.std.proofs.lemmas.Bool.{and_from, cases_lt, false_from_ne_true, true≢false}
use Rattle.std.proofs.lemmas.List.{length-map}
use Rattle.sync_record.specs.Devices.{Identity, bytes_cmp}
use Rattle.sync_record.specs.Records.{FileRecord, Name}
use Rattle.folder_core.specs.Announced.{Announced, KeyedRecord, announce, is_by, key, without}
use Rattle.folder_core.proofs.AnnouncedIndexes.{get-without_other, get-without_own}
use Rattle.folder_core.proofs.ListTests.{alike_bytes, by_or, get_in, in_any, in_filter, in_map, same_bytes}
use Rattle.folder_core.proofs.Orders.{bytes_total, exact_keys, exact_names, keys_total}
use Rattle.folder_index.specs.Devices.{names_by, without_device, without_names}
use Rattle.folder_index.specs.Indexes.{IndexState, Names, counted, without_record}
use Rattle.folder_index.proofs.Announcing.{forgotten}
use Rattle.folder_index.proofs.Chosen.{SameOf, same_best, same_removed, same_set}
use Rattle.folder_db.proofs.Choices.{forget-counted}
use Rattle.proof_node.specs.NewBests.{CountsNewBests, HaveNewBests}

abbrev pub is_at : Name → Name → Bool
is_at n m = eq_by_cmp bytes_cmp n m

tied : (n m : Name) → is_at n m ≡ true → n ≡ m
tied n m t = exact_names n m ((Equal-is (bytes_cmp n m)).0 t)

own-at : (n : Name) → is_at n n ≡ true
own-at n = ap is_eq (tied_itself bytes_total n)

-- ---- names that are apart and in a set are no more than it has

some-in : (s : Names) (n : Name) → contains s n ≡ true → 1 ≤ len s
some-in s n here = by (len s) refl
  where
    by : (k : ℕ) → len s ≡ k → 1 ≤ len s
    by zero e = absurd (true≢false (sym here ∙ ap (λ (t : Names). contains t n) (empty_of_len s e) ∙ contains-empty bytes_cmp n))
    by (suc k) e = omega arith

pub fits : (ns : List Name) (s : Names) → AllPairs (λ m n. m ≢ n) ns → All (λ n. contains s n ≡ true) ns → length ns ≤ len s
fits [] s apart each = omega arith
fits (n ∷ ns) s apart each =
    let here : contains s n ≡ true = each 0 n (omega arith) in
    let some = some-in s n here in
    let fewer : len (set.remove s n) ≡ len s - 1 = len-remove bytes_total s n ∙ ap (λ b. cond b (len s - 1) (len s)) here in
    let rest = fits ns (set.remove s n) (λ i j d lt below. apart (suc i) (suc j) d (omega arith) (omega arith)) (λ k d lt.
    let there : contains s (get_or ns k d) ≡ true = each (suc k) d (omega arith) in
    let other : n ≢ get_or ns k d = apart 0 (suc k) d (omega arith) (omega arith) in
    let unlike : is_at (get_or ns k d) n ≡ false = false_from_ne_true (is_at (get_or ns k d) n) (λ t. other (sym (tied (get_or ns k d) n t))) in
    contains-remove bytes_total s n (get_or ns k d) ∙ and_from _ _ (ap not unlike) there) in
    omega arith

no-more : (ms : List Name) → len {R = bytes_cmp} (from_list ms) ≤ length ms
no-more [] = let e = len-empty bytes_cmp in omega arith
no-more (m ∷ ms) =
    let rest = no-more ms in
    let e = len-insert bytes_total (from_list ms) m in
    let one : cond (contains {R = bytes_cmp} (from_list ms) m) (len {R = bytes_cmp} (from_list ms)) (len {R = bytes_cmp} (from_list ms) + 1) ≤ len {R = bytes_cmp} (from_list ms) + 1 =
    elim (contains {R = bytes_cmp} (from_list ms) m) as (λ b. cond b (len {R = bytes_cmp} (from_list ms)) (len {R = bytes_cmp} (from_list ms) + 1) ≤ len {R = bytes_cmp} (from_list ms) + 1) [ true ↦ omega arith | false ↦ omega arith ] in
    omega arith

-- ---- what a change leaves of other names

module _ (before after : Announced) (names : List Name) (h : HaveNewBests before after names) where
  pub in-set : (s : Names) → ((n : Name) → contains s n ≡ false → SameOf n after before) → length names ≤ len s
  in-set s same = fits names s h.apart (λ k d lt.
      by_or (contains s (get_or names k d)) (contains s (get_or names k d) ≡ true) (λ t. t)
      (λ f. absurd (h.changed k d lt (same_best (get_or names k d) after before (same (get_or names k d) f)))))

  pub in-list : (ms : List Name) → ((n : Name) → list_any (is_at n) ms ≡ false → SameOf n after before) → length names ≤ length ms
  in-list ms same =
      let a = in-set (from_list ms) (λ n f. same n (sym (contains-from_list bytes_total ms n) ∙ f)) in
      let b = no-more ms in
      omega arith

  pub only-one : (m : Name) → ((n : Name) → n ≢ m → SameOf n after before) → length names ≤ 1
  only-one m same = in-list (m ∷ []) (λ n f. same n (λ e. true≢false (sym (ap (λ b. b || false) (ap (is_at n) (sym e) ∙ own-at n)) ∙ f)))

  pub none-new : ((n : Name) → SameOf n after before) → length names ≤ 0
  none-new same = in-list [] (λ n f. same n)

-- ---- records of a device

any-left : (p : Name → Bool) (xs ys : List Name) → list_any p (xs ++ ys) ≡ false → list_any p xs ≡ false
any-left p [] ys f = refl
any-left p (x ∷ xs) ys f =
    elim (p x) as (λ b. (b || list_any p (xs ++ ys)) ≡ false → (b || list_any p xs) ≡ false) [ true ↦ λ f. f | false ↦ λ f. any-left p xs ys f ] f

any-right : (p : Name → Bool) (xs ys : List Name) → list_any p (xs ++ ys) ≡ false → list_any p ys ≡ false
any-right p [] ys f = f
any-right p (x ∷ xs) ys f =
    elim (p x) as (λ b. (b || list_any p (xs ++ ys)) ≡ false → list_any p ys ≡ false) [ true ↦ λ f. absurd (true≢false f) | false ↦ λ f. any-right p xs ys f ] f

or-left : (a b : Bool) → (a || b) ≡ false → a ≡ false
or-left true b f = f
or-left false b f = refl

or-right : (a b : Bool) → (a || b) ≡ false → b ≡ false
or-right true b f = absurd (true≢false f)
or-right false b f = f

module _ (d : Identity) where
  pub announced-same : (n : Name) (rs : List FileRecord) (a : Announced) → list_any (is_at n) (map (λ r. r.name) rs) ≡ false → SameOf n (announce d rs a) a
  announced-same n [] a f e = refl
  announced-same n (r ∷ rs) a f e =
      announced-same n rs (insert a (key r.name d) r) (or-right (is_at n r.name) (list_any (is_at n) (map (λ r. r.name) rs)) f) e
      ∙ same_set n r.name (λ s. true≢false (sym (ap (is_at n) (sym s) ∙ own-at n) ∙ or-left (is_at n r.name) (list_any (is_at n) (map (λ r. r.name) rs)) f)) (of-announced a) d r e
    where
      of-announced : Announced → IndexState
      of-announced a = record { me = []; announced = a; choices = 0; promised = set.empty }

  pub without-same : (n : Name) (a : Announced) → list_any (is_at n) (names_by d (entries a)) ≡ false → SameOf n (without d a) a
  without-same n a f e =
      by_or (bytes_eq d e) (get (without d a) (key n e) ≡ get a (key n e))
      (λ t. let same : d ≡ e = same_bytes d e t in subst (λ x. get (without d a) (key n x) ≡ get a (key n x)) same (get-without_own d a n ∙ sym (nothing (get a (key n d)) refl)))
      (λ g. get-without_other d a e n (λ s. true≢false (sym (alike_bytes d e s) ∙ g)))
    where
      nothing : (o : Option FileRecord) → get a (key n d) ≡ o → get a (key n d) ≡ None
      nothing None g = g
      nothing (Some r) g =
          let i = in_map (λ (x : KeyedRecord). x.0.name) (filter (is_by d) (entries a)) (key n d, r) (in_filter (is_by d) (entries a) (key n d, r) (get_in keys_total exact_keys a (key n d) r g) (alike_bytes d d refl)) in
          absurd (true≢false (sym (in_any (is_at n) (names_by d (entries a)) n i (own-at n)) ∙ f))

  pub replaced-same : (n : Name) (rs : List FileRecord) (a : Announced) → list_any (is_at n) (map (λ r. r.name) rs ++ names_by d (entries a)) ≡ false → SameOf n (announce d rs (without d a)) a
  replaced-same n rs a f e =
      announced-same n rs (without d a) (any-left (is_at n) (map (λ r. r.name) rs) (names_by d (entries a)) f) e
      ∙ without-same n a (any-right (is_at n) (map (λ r. r.name) rs) (names_by d (entries a)) f) e

  -- ---- an index

  pub put-counted : (s : IndexState) (r : FileRecord) (was : ℕ) → CountsNewBests s.announced was (insert s.announced (key r.name d) r) (counted was)
  put-counted s r was names h =
      let few = only-one s.announced (insert s.announced (key r.name d) r) names h r.name (λ n other. same_set n r.name other s d r) in
      omega arith

  pub all-counted : (s : IndexState) (rs : List FileRecord) → CountsNewBests s.announced s.choices (announce d rs s.announced) (min (s.choices + length rs) (2 ^ 64 - 1))
  all-counted s rs names h =
      let few = in-list s.announced (announce d rs s.announced) names h (map (λ r. r.name) rs) (λ n f. announced-same n rs s.announced f) in
      let long = length-map rs (λ (r : FileRecord). r.name) in
      omega arith

  pub clear-counted : (s : IndexState) (n : Name) → CountsNewBests s.announced s.choices (without_record d n s).announced (without_record d n s).choices
  clear-counted s n = by (contains_key s.announced (key n d))
    where
      removed : IndexState
      removed = record { me = s.me; announced = remove s.announced (key n d); choices = counted s.choices; promised = s.promised }

      by : (b : Bool) → CountsNewBests s.announced s.choices (cond b (record { me = s.me; announced = remove s.announced (key n d); choices = counted s.choices; promised = s.promised }) s).announced (cond b (record { me = s.me; announced = remove s.announced (key n d); choices = counted s.choices; promised = s.promised }) s).choices
      by true names h = let few = only-one s.announced (remove s.announced (key n d)) names h n (λ m other. same_removed m n other s d) in omega arith
      by false names h = let few = none-new s.announced s.announced names h (λ m e. refl) in omega arith

  removed-high : (n : Name) (s : IndexState) → 2 ^ 64 - 1 ≤ s.choices → 2 ^ 64 - 1 ≤ (without_record d n s).choices
  removed-high n s high =
      elim (contains_key s.announced (key n d)) as (λ b. 2 ^ 64 - 1 ≤ (cond b (record { me = s.me; announced = remove s.announced (key n d); choices = counted s.choices; promised = s.promised }) s).choices) [ true ↦ omega arith | false ↦ high ]

  names-high : (ns : List Name) (s : IndexState) → 2 ^ 64 - 1 ≤ s.choices → 2 ^ 64 - 1 ≤ (without_names d ns s).choices
  names-high [] s high = high
  names-high (n ∷ ns) s high = names-high ns (without_record d n s) (removed-high n s high)

  pub forget-counts : (s : IndexState) → CountsNewBests s.announced s.choices (without_device d s).announced (without_device d s).choices
  forget-counts s names h = by (cases_lt s.choices (2 ^ 64))
    where
      few : length names ≤ length (names_by d (entries s.announced))
      few = in-list s.announced (without_device d s).announced names h (names_by d (entries s.announced)) (λ n f e. ap (λ (a : Announced). get a (key n e)) (forgotten d s) ∙ without-same n s.announced f e)

      by : (s.choices < 2 ^ 64) ⊎ (2 ^ 64 ≤ s.choices) → min (s.choices + length names) (2 ^ 64 - 1) ≤ (without_device d s).choices
      by (inl lt) = let e = forget-counted d s (omega arith) in let f = few in omega arith
      by (inr le) = let e = names-high (names_by d (entries s.announced)) s (omega arith) in omega arith
