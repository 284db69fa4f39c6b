-- The records of pages in rising sequence: the last one of a name, and the greatest sequence.
use Rattle.std.proofs.Common.{◌≡◌, ℕ, ◌<◌, ◌≤◌, Bool, true, false, List, [], ◌∷◌, ◌++◌, refl, sym, ap, subst, ◌∙◌, arith, ◌⊎◌, inl, inr}
use Rattle.std.specs.Prelude.{bytes_eq, Contains, find, fold, map, max, nat_le, reverse, Option, None, Some}
use Rattle.std.specs.List.{AllByRecursion}
use Rattle.std.specs.List.Sorted.{IsStrictlySortedBy}
use Rattle.std.specs.Option.{option_or}
use Rattle.std.specs.Cmp.{nat_cmp_is}
use Rattle.std.specs.Ordering.{nat_cmp}
use Rattle.std.specs.declared.cmp.Ordering.TheVariants.{Less}
use Rattle.std.proofs.lemmas.Bool.{leb-true, leb-false}
use Rattle.std.proofs.lemmas.List.{map-append, reverse-append}
use Rattle.std.proofs.lemmas.List.Elements.{Contains-append_cases, Contains-append_left, Contains-append_right}
use Rattle.std.proofs.lemmas.List.Folds.{find-append}
use Rattle.std.proofs.lemmas.Option.{none-some}
use Rattle.folder_core.specs.Announced.{last_of}
use Rattle.folder_calls.specs.Shared.{CallerView}
use Rattle.index_sender.specs.Overlay.{KeepsUp, RecordMap, lay, overlay}
use Rattle.index_sender.specs.Pages.{Progress, last_sequence, records_of}
use Rattle.index_sender.specs.declared.page.Page.{Page}
use Rattle.index_sender.specs.declared.page.Page.TheVariants.{Index, IndexUpdate, Nothing}
use Rattle.index_sender.proofs.PageRecords.{Rise, above-all, in-cons, in-first, in-rest, last-has, last-in, last-is}
use Rattle.node_saver.specs.Saving.{records_in}
use Rattle.node_saver.proofs.Records.{push-all}
use Rattle.sync_record.specs.Records.{Name, FileRecord}
use Rattle.proof_journal.specs.Appended.{AreUpdates, IsUpdate}

-- ---- the last record of a name

pub last-append : (n : Name) (xs ys : List FileRecord) → last_of n (xs ++ ys) ≡ option_or (last_of n ys) (last_of n xs)
last-append n xs ys = ap (find (λ r. bytes_eq r.name n)) (reverse-append xs ys) ∙ find-append (λ r. bytes_eq r.name n) (reverse ys) (reverse xs)

or-assoc : (a b c : Option FileRecord) → option_or (option_or a b) c ≡ option_or a (option_or b c)
or-assoc None b c = refl
or-assoc (Some x) b c = refl

or-none : (a : Option FileRecord) → option_or a None ≡ a
or-none None = refl
or-none (Some x) = refl

laid : (n : Name) (pages : List Page) → AllByRecursion IsUpdate pages → (below : RecordMap) → fold lay below pages n ≡ option_or (last_of n (records_in pages)) (below n)
laid n [] all below = refl
laid n (Index rs ∷ pages) all below = absurd all.0
laid n (IndexUpdate rs ∷ pages) all below =
    laid n pages all.1 (lay below (IndexUpdate rs))
    ∙ sym (or-assoc (last_of n (records_in pages)) (last_of n rs) (below n))
    ∙ ap (λ o. option_or o (below n)) (sym (last-append n rs (records_in pages)))
laid n (Nothing ∷ pages) all below = laid n pages all.1 (lay below Nothing)

-- updates that are laid over each other have of each name the last record
pub overlay-is : (n : Name) (pages : List Page) → AllByRecursion IsUpdate pages → overlay pages n ≡ last_of n (records_in pages)
overlay-is n pages all = laid n pages all (λ q. None) ∙ or-none (last_of n (records_in pages))

-- ---- sequences that rise

all-left : (P : ℕ → Type 0) (xs ys : List FileRecord) → AllByRecursion P (map (λ r. r.sequence) (xs ++ ys)) → AllByRecursion P (map (λ r. r.sequence) xs)
all-left P [] ys all = tt
all-left P (x ∷ xs) ys all = (all.0, all-left P xs ys all.1)

pub rise-left : (xs ys : List FileRecord) → Rise (xs ++ ys) → Rise xs
unfolding IsStrictlySortedBy
rise-left [] ys rise = tt
rise-left (x ∷ xs) ys rise = (all-left _ xs ys rise.0, rise-left xs ys rise.1)

pub rise-right : (xs ys : List FileRecord) → Rise (xs ++ ys) → Rise ys
unfolding IsStrictlySortedBy
rise-right [] ys rise = rise
rise-right (x ∷ xs) ys rise = rise-right xs ys rise.1

-- those of the front are below those of the rest
pub rise-apart : (xs ys : List FileRecord) → Rise (xs ++ ys) → (q r : FileRecord) → Contains xs q → Contains ys r → q.sequence < r.sequence
unfolding IsStrictlySortedBy
rise-apart [] ys rise q r i j = absurd (let below = i.1 in omega arith)
rise-apart (x ∷ xs) ys rise q r i j = by (λ k. rise-apart xs ys rise.1 q r k j) (in-cons x xs q i)
  where
    by : (Contains xs q → q.sequence < r.sequence) → (q ≡ x) ⊎ Contains xs q → q.sequence < r.sequence
    by rest (inl e) = subst (λ (y : FileRecord). y.sequence < r.sequence) (sym e) (above-all x.sequence (xs ++ ys) rise.0 r (Contains-append_right xs ys r j))
    by rest (inr k) = rest k

-- the last record of a name has the greatest sequence of the name
pub last-top : (n : Name) (xs : List FileRecord) → Rise xs → (q r : FileRecord) → Contains xs r → r.name ≡ n → last_of n xs ≡ Some q → r.sequence ≤ q.sequence
unfolding IsStrictlySortedBy
last-top n [] rise q r i named e = absurd (none-some q e)
last-top n (x ∷ xs) rise q r i named e = by (λ j. last-top n xs rise.1 q r j named) (last_of n xs) refl (in-cons x xs r i) (sym (last-append n (x ∷ []) xs) ∙ e)
  where
    by : (Contains xs r → last_of n xs ≡ Some q → r.sequence ≤ q.sequence) → (o : Option FileRecord) → last_of n xs ≡ o → (r ≡ x) ⊎ Contains xs r
        → option_or o (last_of n (x ∷ [])) ≡ Some q → r.sequence ≤ q.sequence
    by rest None is (inl s) f =
        let one : (q ≡ x) ⊎ Contains [] q = in-cons x [] q (last-in n (x ∷ []) q f).0 in
        elim one [
          | inl t ↦ let same : r.sequence ≡ q.sequence = ap (λ (y : FileRecord). y.sequence) (s ∙ sym t) in omega arith
          | inr none ↦ absurd (let below = none.1 in omega arith)
        ]
    by rest None is (inr j) f = let found = last-has n xs r j named in absurd (none-some found.0 (sym is ∙ found.1))
    by rest (Some y) is (inl s) f =
        let same : r.sequence ≡ x.sequence = ap (λ (z : FileRecord). z.sequence) s in
        let more : x.sequence < q.sequence = above-all x.sequence xs rise.0 q (last-in n xs q (is ∙ f)).0 in
        omega arith
    by rest (Some y) is (inr j) f = rest j (is ∙ f)

pub all-front : {A : Type 0} (P : A → Type 0) (xs ys : List A) → AllByRecursion P (xs ++ ys) → AllByRecursion P xs
all-front P [] ys all = tt
all-front P (x ∷ xs) ys all = (all.0, all-front P xs ys all.1)

pub all-rest : {A : Type 0} (P : A → Type 0) (xs ys : List A) → AllByRecursion P (xs ++ ys) → AllByRecursion P ys
all-rest P [] ys all = all
all-rest P (x ∷ xs) ys all = all-rest P xs ys all.1

-- a list rises whose front and rest do, where all of the front are below the rest
all-above : (k : ℕ) (rs : List FileRecord) → ((r : FileRecord) → Contains rs r → k < r.sequence) → AllByRecursion (λ j. nat_cmp k j ≡ Less) (map (λ r. r.sequence) rs)
all-above k [] each = tt
all-above k (r ∷ rs) each = (sym (nat_cmp_is k r.sequence Less (each r (in-first r rs))), all-above k rs (λ q i. each q (in-rest r rs q i)))

pub rise-join : (xs ys : List FileRecord) → Rise xs → Rise ys → ((q r : FileRecord) → Contains xs q → Contains ys r → q.sequence < r.sequence) → Rise (xs ++ ys)
unfolding IsStrictlySortedBy
rise-join [] ys front rest apart = rest
rise-join (x ∷ xs) ys front rest apart = (
  subst (AllByRecursion (λ j. nat_cmp x.sequence j ≡ Less)) (sym (map-append (λ (r : FileRecord). r.sequence) xs ys))
      (push-all (λ j. nat_cmp x.sequence j ≡ Less) (map (λ (r : FileRecord). r.sequence) xs) (map (λ (r : FileRecord). r.sequence) ys) front.0 (all-above x.sequence ys (λ r j. apart x r (in-first x xs) j))),
  rise-join xs ys front.1 rest (λ q r i j. apart q r (in-rest x xs q i) j),
)

-- ---- pages that keep up with a folder

-- each of their records is up to the cursor
pub given : (start : ℕ) (pages : List Page) (progress : Progress) (v : CallerView) → KeepsUp start pages progress v → AreUpdates pages
    → (r : FileRecord) → Contains (records_in pages) r → r.sequence ≤ progress.cursor
given start pages progress v keeps are r i =
    let found = last-has r.name (records_in pages) r i refl in
    let le : r.sequence ≤ found.0.sequence = last-top r.name (records_in pages) are.rise found.0 r i refl found.1 in
    let only = keeps.only r.name found.0 (overlay-is r.name pages are.updates ∙ found.1) in
    let upto : found.0.sequence ≤ progress.cursor = only.1 in
    omega arith

-- ---- the greatest of the pages' last sequences

abbrev pub lasts_in : List Page → List ℕ
lasts_in pages = map (λ p. last_sequence 0 (records_of p)) pages

-- it is the given one, or that of a record
pub top-reached : (k : ℕ) (pages : List Page) → Rise (records_in pages)
    → (fold max k (lasts_in pages) ≡ k) ⊎ ((r : FileRecord) × Contains (records_in pages) r × (r.sequence ≡ fold max k (lasts_in pages)))
top-reached k [] rise = inl refl
top-reached k (page ∷ pages) rise =
    by (last-is 0 rs (rise-left rs rest rise)).reached (top-reached (max k last) pages (rise-right rs rest rise))
  where
    rs : List FileRecord
    rs = records_of page

    rest : List FileRecord
    rest = records_in pages

    last : ℕ
    last = last_sequence 0 (records_of page)

    Reached : ℕ → Type 0
    Reached top = (top ≡ k) ⊎ ((r : FileRecord) × Contains (records_of page ++ records_in pages) r × (r.sequence ≡ top))

    greater : (b : Bool) → nat_le last k ≡ b → (r : FileRecord) → Contains (records_of page) r → r.sequence ≡ last → (top : ℕ) → top ≡ max k last → Reached top
    greater true t r i e top is = inl (let le = leb-true last k t in omega arith)
    greater false t r i e top is = inr (r, Contains-append_left (records_of page) (records_in pages) r i, (let lt = leb-false last k t in omega arith))

    by : (last ≡ 0) ⊎ ((r : FileRecord) × Contains (records_of page) r × (r.sequence ≡ last))
        → (fold max (max k last) (lasts_in pages) ≡ max k last) ⊎ ((r : FileRecord) × Contains (records_in pages) r × (r.sequence ≡ fold max (max k last) (lasts_in pages)))
        → Reached (fold max (max k last) (lasts_in pages))
    by own (inr x) = inr (x.0, Contains-append_right (records_of page) (records_in pages) x.0 x.1, x.2)
    by (inl none) (inl e) = inl (e ∙ omega arith)
    by (inr x) (inl e) = greater (nat_le last k) refl x.0 x.1 x.2 (fold max (max k last) (lasts_in pages)) e

-- and none is above it
pub top-above : (k : ℕ) (pages : List Page) → Rise (records_in pages)
    → (k ≤ fold max k (lasts_in pages)) × ((r : FileRecord) → Contains (records_in pages) r → r.sequence ≤ fold max k (lasts_in pages))
top-above k [] rise = (omega arith, λ r i. absurd (let below = i.1 in omega arith))
top-above k (page ∷ pages) rise =
    let rest = top-above (max k (last_sequence 0 (records_of page))) pages (rise-right (records_of page) (records_in pages) rise) in
    by (last-is 0 (records_of page) (rise-left (records_of page) (records_in pages) rise)).above (fold max (max k (last_sequence 0 (records_of page))) (lasts_in pages)) rest.0 rest.1
  where
    by : ((r : FileRecord) → Contains (records_of page) r → r.sequence ≤ last_sequence 0 (records_of page))
        → (top : ℕ) → max k (last_sequence 0 (records_of page)) ≤ top → ((r : FileRecord) → Contains (records_in pages) r → r.sequence ≤ top)
        → (k ≤ top) × ((r : FileRecord) → Contains (records_of page ++ records_in pages) r → r.sequence ≤ top)
    by own top over rest = (
      omega arith,
      λ r i. elim (Contains-append_cases (records_of page) (records_in pages) r i) [
        | inl j ↦ let le = own r j in omega arith
        | inr j ↦ rest r j
      ],
    )
