-- A page is determined by what is said of it.
use Rattle.std.proofs.Common.{◌≡◌, ◌⊎◌, ℕ, zero, suc, ◌+◌, ◌<◌, ◌≤◌, true, false, List, [], ◌∷◌, ◌++◌, length, length-append, refl, sym, ap, subst, ◌∙◌, arith, inl, inr}
use Rattle.std.specs.Prelude.{nat_lt, map, Option, Some, None, Contains}
use Rattle.std.proofs.lemmas.Bool.{ltb-true, ltb-false}
use Rattle.std.specs.Cmp.{IsTotalOrder, nat_cmp_total, on_total}
use Rattle.std.proofs.lemmas.List.Sums.{sum_by-cons}
use Rattle.std.specs.List.{AllByRecursion}
use Rattle.std.specs.List.Sorted.{IsStrictlySortedBy}
use Rattle.std.specs.Ordering.{on, nat_cmp}
use Rattle.std.specs.declared.cmp.Ordering.{Ordering}
use Rattle.std.specs.declared.cmp.Ordering.TheVariants.{Less}
use Rattle.sync_record.specs.Devices.{bytes_cmp}
use Rattle.sync_record.specs.Records.{Name, FileRecord}
use Rattle.folder_core.specs.Announced.{IsNamed}
use Rattle.folder_core.specs.States.{FolderState, IsNumbered, local, need}
use Rattle.folder_core.specs.Reads.{ArePages, BestEntry, IsAfter, best_with_devices, bests_after, bests_page, need_page, last_page, local_since, next_page}
use Rattle.folder_core.proofs.BestPages.{bests_after-next, bests-page_has, bests-page_of, bests-page_rises, found_cmp}
use Rattle.folder_core.proofs.ListTests.{In, in_contains, contains_in}
use Rattle.folder_core.proofs.Orders.{bytes_total}
use Rattle.folder_core.proofs.ReadAnswers.{need-page_rises, need-page_fits, need-page_of, need-page_has}
use Rattle.folder_core.proofs.ReadPages.{Stops, blocks_of, page-fits, page-has, page-of, page-rises}
use Rattle.folder_core.proofs.ReadLists.{length-within, sum-within, not-itself, not-both, rising-apart, rising-same}

module _ {A : Type 0} (c : A → A → Ordering) (o : IsTotalOrder c) (Due : A → Type 0) (limit : ℕ) where
  -- the first of what is due, at most limit
  pub record IsFirst (xs : List A) : Type 0 where
    pub rise : IsStrictlySortedBy c xs
    pub few : length xs ≤ limit
    pub only : (x : A) → Contains xs x → Due x
    pub all : (x : A) → Due x → Contains xs x ⊎ ((length xs ≡ limit) × ((y : A) → Contains xs y → c y x ≡ Less))

  module _ (xs ys : List A) (p : IsFirst xs) (q : IsFirst ys) where
    -- were one missing, the other list would have it besides all of this one
    not-after : (x : A) → In x xs → (length ys ≡ limit) × ((y : A) → Contains ys y → c y x ≡ Less) → ⊥
    not-after x i h =
        let more : suc (length ys) ≤ length xs = length-within (x ∷ ys) xs (absent, rising-apart c o ys q.rise) shared in
        let few = p.few in
        let full = h.0 in
        omega arith
      where
        absent : ¬ (In x ys)
        absent j = not-itself c o x (h.1 x (in_contains ys x j))

        there : (y : A) → In y ys → Contains xs y ⊎ ((length xs ≡ limit) × ((z : A) → Contains xs z → c z y ≡ Less)) → In y xs
        there y j (inl k) = contains_in xs y k
        there y j (inr g) = absurd (not-both c o x y (g.1 x (in_contains xs x i)) (h.1 y (in_contains ys y j)))

        shared : (y : A) → (y ≡ x) ⊎ In y ys → In y xs
        shared y (inl e) = subst (λ z. In z xs) (sym e) i
        shared y (inr j) = there y j (p.all y (q.only y (in_contains ys y j)))

    covered : (x : A) → In x xs → In x ys
    covered x i = by (q.all x (p.only x (in_contains xs x i)))
      where
        by : Contains ys x ⊎ ((length ys ≡ limit) × ((y : A) → Contains ys y → c y x ≡ Less)) → In x ys
        by (inl k) = contains_in ys x k
        by (inr h) = absurd (not-after x i h)

  pub one-first : (xs ys : List A) → IsFirst xs → IsFirst ys → xs ≡ ys
  one-first xs ys p q = rising-same c o xs ys p.rise q.rise (covered xs ys p q) (covered ys xs q p)

-- a list rises by what is made of its elements
module _ {A B : Type 0} (f : A → B) (c : B → B → Ordering) where
  above : (x : A) (xs : List A) → AllByRecursion (λ y. c (f x) y ≡ Less) (map f xs) → AllByRecursion (λ y. on f c x y ≡ Less) xs
  above x [] h = tt
  above x (y ∷ xs) h = (h.0, above x xs h.1)

  unmapped : (xs : List A) → IsStrictlySortedBy c (map f xs) → IsStrictlySortedBy (on f c) xs
  unfolding IsStrictlySortedBy
  unmapped [] rise = tt
  unmapped (x ∷ xs) rise = (above x xs rise.0, unmapped xs rise.1)

-- ---- needed names

pub need-whole : (s : FolderState) (after : Option Name) (limit : ℕ) (names : List Name)
    → IsStrictlySortedBy bytes_cmp names → length names ≤ limit
    → ((n : Name) → Contains names n → Contains (need s) n × IsAfter after n)
    → ((n : Name) → Contains (need s) n → IsAfter after n → Contains names n ⊎ ((length names ≡ limit) × ((m : Name) → Contains names m → bytes_cmp m n ≡ Less)))
    → names ≡ need_page s after limit
need-whole s after limit names rise few only all =
    one-first bytes_cmp bytes_total (λ n. Contains (need s) n × IsAfter after n) limit names (need_page s after limit)
    (record { rise = rise; few = few; only = only; all = λ n due. all n due.0 due.1 })
    (record { rise = need-page_rises s after limit; few = need-page_fits s after limit; only = need-page_of s after limit; all = λ n due. need-page_has s after limit n due.0 due.1 })

-- ---- bests

pub bests-whole : (s : FolderState) (after : Option Name) (limit : ℕ) (page : List BestEntry) → IsNamed s.announced
    → IsStrictlySortedBy bytes_cmp (map (λ b. b.0.name) page) → length page ≤ limit → length (bests_page s after limit) ≤ limit
    → ((b : BestEntry) → Contains page b → (Some b ≡ best_with_devices s b.0.name) × IsAfter after b.0.name)
    → ((n : Name) (b : BestEntry) → Some b ≡ best_with_devices s n → IsAfter after n → Contains page b ⊎ ((length page ≡ limit) × ((d : BestEntry) → Contains page d → bytes_cmp d.0.name n ≡ Less)))
    → page ≡ bests_page s after limit
bests-whole s after limit page named rise few short only all =
    one-first found_cmp (on_total (λ b. b.0.name) bytes_total) (λ b. (Some b ≡ best_with_devices s b.0.name) × IsAfter after b.0.name) limit page (bests_page s after limit)
    (record { rise = unmapped (λ (b : BestEntry). b.0.name) bytes_cmp page rise; few = few; only = only; all = λ b due. all b.0.name b due.0 due.1 })
    (record {
      rise = unmapped (λ (b : BestEntry). b.0.name) bytes_cmp (bests_page s after limit) (bests-page_rises s named after limit);
      few = short;
      only = bests-page_of s named after limit;
      all = λ b due. bests-page_has s after b.0.name due.1 named limit b due.0;
    })

-- ---- local records

module _ (s : FolderState) (seq limit : ℕ) (numbered : IsNumbered s) where
  abbrev IsDue : FileRecord → Type 0
  IsDue r = (n : Name) × (local s n ≡ Some r) × (seq < r.sequence)

  record IsLocalPage (rs : List FileRecord) : Type 0 where
    rise : IsStrictlySortedBy nat_cmp (map (λ r. r.sequence) rs)
    few : length rs ≤ limit
    light : (blocks_of rs ≤ 1000000) ⊎ (length rs ≤ 1)
    only : (r : FileRecord) → Contains rs r → IsDue r
    all : (n : Name) (r : FileRecord) → local s n ≡ Some r → seq < r.sequence → Contains rs r ⊎ Stops s seq limit numbered rs r

  abbrev by_number : FileRecord → FileRecord → Ordering
  by_number = on (λ r. r.sequence) nat_cmp

  by-rise : (rs : List FileRecord) → IsLocalPage rs → IsStrictlySortedBy by_number rs
  by-rise rs p = unmapped (λ (r : FileRecord). r.sequence) nat_cmp rs p.rise

  module _ (xs ys : List FileRecord) (p : IsLocalPage xs) (q : IsLocalPage ys) (x : FileRecord) (i : In x xs) where
    -- the record at which the other page would stop before this one is due
    due-next : (zs : List FileRecord) (z : FileRecord) → ((y : FileRecord) → Contains zs y → IsDue y) → ((y : FileRecord) → Contains zs y → y.sequence < z.sequence)
        → (length zs ≡ limit) ⊎ ((1 ≤ length zs) × (1000000 < blocks_of zs + length z.blocks)) → seq < z.sequence
    due-next [] z only below (inl full) =
        let one : length (x ∷ []) ≤ length xs = length-within (x ∷ []) xs ((λ j. j), tt) alone in
        let few = p.few in
        absurd (omega arith)
      where
        alone : (y : FileRecord) → (y ≡ x) ⊎ ⊥ → In y xs
        alone y (inl e) = subst (λ z. In z xs) (sym e) i
        alone y (inr j) = absurd j
    due-next [] z only below (inr full) = let one = full.0 in absurd (omega arith)
    due-next (y ∷ zs) z only below full =
        let c : Contains (y ∷ zs) y = in_contains (y ∷ zs) y (inl refl) in
        let above = (only y c).2 in
        let less = below y c in
        omega arith

    -- were this one missing, this page would have that record and all of the other page besides
    no-stop : Stops s seq limit numbered ys x → ⊥
    no-stop h =
        let z : FileRecord = h.1 in
        let due = due-next ys z q.only h.4 h.5 in
        let upto = h.3 in
        let next : In z xs = there z upto (p.all h.0 z h.2 due) in
        let absent : ¬ (In z ys) = λ j. (let less = h.4 z (in_contains ys z j) in omega arith) in
        let apart = rising-apart by_number (on_total (λ r. r.sequence) nat_cmp_total) ys (by-rise ys q) in
        let shared : (y : FileRecord) → (y ≡ z) ⊎ In y ys → In y xs = among z next h.4 upto in
        let more : suc (length ys) ≤ length xs = length-within (z ∷ ys) xs (absent, apart) shared in
        let heavier : blocks_of (z ∷ ys) ≤ blocks_of xs = sum-within (λ r. length r.blocks) (z ∷ ys) xs (absent, apart) shared in
        let sum : blocks_of (z ∷ ys) ≡ length z.blocks + blocks_of ys = sum_by-cons (λ r. length r.blocks) z ys in
        too-much z h.5 p.light (omega arith) (omega arith)
      where
        there : (y : FileRecord) → y.sequence ≤ x.sequence → Contains xs y ⊎ Stops s seq limit numbered xs y → In y xs
        there y le (inl k) = contains_in xs y k
        there y le (inr g) = let less = g.4 x (in_contains xs x i) in let upto = g.3 in absurd (omega arith)

        among : (z : FileRecord) → In z xs → ((y : FileRecord) → Contains ys y → y.sequence < z.sequence) → z.sequence ≤ x.sequence → (y : FileRecord) → (y ≡ z) ⊎ In y ys → In y xs
        among z next below upto y (inl e) = subst (λ w. In w xs) (sym e) next
        among z next below upto y (inr j) =
            let c = in_contains ys y j in
            let due = q.only y c in
            let less = below y c in
            there y (omega arith) (p.all due.0 y due.1 due.2)

        too-much : (z : FileRecord) → (length ys ≡ limit) ⊎ ((1 ≤ length ys) × (1000000 < blocks_of ys + length z.blocks)) → (blocks_of xs ≤ 1000000) ⊎ (length xs ≤ 1)
            → suc (length ys) ≤ length xs → length z.blocks + blocks_of ys ≤ blocks_of xs → ⊥
        too-much z (inl full) light more heavier = let few = p.few in omega arith
        too-much z (inr full) (inl light) more heavier = let over = full.1 in omega arith
        too-much z (inr full) (inr light) more heavier = let one = full.0 in omega arith

    there-too : In x ys
    there-too = by (let due = p.only x (in_contains xs x i) in q.all due.0 x due.1 due.2)
      where
        by : Contains ys x ⊎ Stops s seq limit numbered ys x → In x ys
        by (inl k) = contains_in ys x k
        by (inr h) = absurd (no-stop h)

  pub local-whole : (page : List FileRecord) → IsStrictlySortedBy nat_cmp (map (λ r. r.sequence) page) → length page ≤ limit → (blocks_of page ≤ 1000000) ⊎ (length page ≤ 1)
      → ((r : FileRecord) → Contains page r → IsDue r)
      → ((n : Name) (r : FileRecord) → local s n ≡ Some r → seq < r.sequence → Contains page r ⊎ Stops s seq limit numbered page r)
      → page ≡ local_since s seq limit
  local-whole page rise few light only all =
      let mine : IsLocalPage page = record { rise = rise; few = few; light = light; only = only; all = all } in
      let fits = page-fits s seq limit numbered in
      let own : IsLocalPage (local_since s seq limit) = record {
        rise = page-rises s seq limit numbered;
        few = fits.0;
        light = fits.1;
        only = page-of s seq limit numbered;
        all = page-has s seq limit numbered;
      } in
      rising-same by_number (on_total (λ r. r.sequence) nat_cmp_total) page (local_since s seq limit) (by-rise page mine) (by-rise (local_since s seq limit) own)
      (there-too page (local_since s seq limit) mine own)
      (there-too (local_since s seq limit) page own mine)

-- ---- pages after one another

module _ (s : FolderState) (named : IsNamed s.announced) (limit : ℕ) (one : 1 ≤ limit) where
  abbrev Pages : Option Name → Type 0
  Pages after = (pages : List (List BestEntry)) × ArePages s limit after pages

  full-page : (after : Option Name) → limit ≤ length (bests_page s after limit) → (front : List BestEntry) × (b : BestEntry) × (bests_page s after limit ≡ front ++ b ∷ [])
  full-page after full = split (bests_page s after limit) (omega arith)
    where
      split : (xs : List BestEntry) → 1 ≤ length xs → (front : List BestEntry) × (b : BestEntry) × (xs ≡ front ++ b ∷ [])
      split [] some = absurd (omega arith)
      split (x ∷ []) some = ([], x, refl)
      split (x ∷ y ∷ xs) some = let r = split (y ∷ xs) (omega arith) in (x ∷ r.0, r.1, ap (λ l. x ∷ l) r.2)

  pages-from : (k : ℕ) (after : Option Name) → length (bests_after s after) < k → Pages after
  pages-from zero after fuel = absurd (omega arith)
  pages-from (suc k) after fuel =
      elim (nat_lt (length (bests_page s after limit)) limit) as (λ t. nat_lt (length (bests_page s after limit)) limit ≡ t → Pages after) [
        | true ↦ λ t. (bests_page s after limit ∷ [], last_page after (bests_page s after limit) refl (ltb-true (length (bests_page s after limit)) limit t))
        | false ↦ λ t.
            let f = full-page after (ltb-false (length (bests_page s after limit)) limit t) in
            let split = bests_after-next s named after limit f.0 f.1 f.2 in
            let whole : length (bests_after s after) ≡ length (f.0 ++ f.1 ∷ []) + length (bests_after s (Some f.1.0.name)) =
            ap length split ∙ length-append (f.0 ++ f.1 ∷ []) (bests_after s (Some f.1.0.name)) in
            let last : length (f.0 ++ f.1 ∷ []) ≡ length f.0 + 1 = length-append f.0 (f.1 ∷ []) in
            let rest = pages-from k (Some f.1.0.name) (omega arith) in
            ((f.0 ++ f.1 ∷ []) ∷ rest.0, next_page after f.0 f.1 rest.0 (sym f.2) rest.1)
      ] refl

  pub some-pages : Pages None
  some-pages = pages-from (suc (length (bests_after s None))) None (omega arith)
