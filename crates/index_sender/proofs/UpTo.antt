-- The records of a page up to a sequence.
use Rattle.std.proofs.Common.{◌≡◌, ℕ, ◌<◌, ◌≤◌, Bool, true, false, List, [], ◌∷◌, length, refl, sym, ap, subst, arith, ◌⊎◌, inl, inr}
use Rattle.std.specs.Prelude.{Contains, map, nat_le, Some, if◌then◌else◌}
use Rattle.std.specs.List.{AllByRecursion}
use Rattle.std.specs.List.Sorted.{IsStrictlySortedBy}
use Rattle.std.specs.Ordering.{nat_cmp}
use Rattle.std.specs.declared.cmp.Ordering.TheVariants.{Less}
use Rattle.std.proofs.lemmas.Bool.{leb-true, leb-false}
use Rattle.sync_record.specs.Records.{Name, FileRecord}
use Rattle.folder_core.specs.States.{FolderState, local}
use Rattle.index_sender.specs.Pages.{up_to}
use Rattle.index_sender.proofs.KeepingUp.{IsPage, Stops}
use Rattle.index_sender.proofs.PageRecords.{Rise, above-all, in-cons, in-first, in-rest}

pub up-to-in : (k : ℕ) (rs : List FileRecord) (r : FileRecord) → Contains (up_to k rs) r → Contains rs r × (r.sequence ≤ k)
up-to-in k [] r i = absurd (let below = i.1 in omega arith)
up-to-in k (x ∷ xs) r i = by (up-to-in k xs r) (nat_le x.sequence k) refl i
  where
    by : (Contains (up_to k xs) r → Contains xs r × (r.sequence ≤ k)) → (b : Bool) → nat_le x.sequence k ≡ b → Contains (if b then x ∷ up_to k xs else []) r → Contains (x ∷ xs) r × (r.sequence ≤ k)
    by rest true t i = elim (in-cons x (up_to k xs) r i) [
      | inl e ↦ (subst (Contains (x ∷ xs)) (sym e) (in-first x xs), subst (λ (y : FileRecord). y.sequence ≤ k) (sym e) (leb-true x.sequence k t))
      | inr j ↦ let found = rest j in (in-rest x xs r found.0, found.1)
    ]
    by rest false t i = absurd (let below = i.1 in omega arith)

pub up-to-has : (k : ℕ) (rs : List FileRecord) → Rise rs → (r : FileRecord) → Contains rs r → r.sequence ≤ k → Contains (up_to k rs) r
unfolding IsStrictlySortedBy
up-to-has k [] rise r i below = i
up-to-has k (x ∷ xs) rise r i below = by (λ j. up-to-has k xs rise.1 r j below) (nat_le x.sequence k) refl (in-cons x xs r i)
  where
    by : (Contains xs r → Contains (up_to k xs) r) → (b : Bool) → nat_le x.sequence k ≡ b → (r ≡ x) ⊎ Contains xs r → Contains (if b then x ∷ up_to k xs else []) r
    by rest true t (inl e) = subst (Contains (x ∷ up_to k xs)) (sym e) (in-first x (up_to k xs))
    by rest true t (inr j) = in-rest x (up_to k xs) r (rest j)
    by rest false t (inl e) =
        let over = leb-false x.sequence k t in
        let same : r.sequence ≡ x.sequence = ap (λ (y : FileRecord). y.sequence) e in
        absurd (omega arith)
    by rest false t (inr j) =
        let over = leb-false x.sequence k t in
        let more : x.sequence < r.sequence = above-all x.sequence xs rise.0 r j in
        absurd (omega arith)

all-up-to : (P : ℕ → Type 0) (k : ℕ) (rs : List FileRecord) → AllByRecursion P (map (λ r. r.sequence) rs) → AllByRecursion P (map (λ r. r.sequence) (up_to k rs))
all-up-to P k [] all = all
all-up-to P k (x ∷ xs) all = by (all-up-to P k xs all.1) (nat_le x.sequence k)
  where
    by : AllByRecursion P (map (λ r. r.sequence) (up_to k xs)) → (b : Bool) → AllByRecursion P (map (λ r. r.sequence) (if b then x ∷ up_to k xs else []))
    by rest true = (all.0, rest)
    by rest false = tt

pub up-to-rise : (k : ℕ) (rs : List FileRecord) → Rise rs → Rise (up_to k rs)
unfolding IsStrictlySortedBy
up-to-rise k [] rise = rise
up-to-rise k (x ∷ xs) rise = by (up-to-rise k xs rise.1) (nat_le x.sequence k)
  where
    by : Rise (up_to k xs) → (b : Bool) → Rise (if b then x ∷ up_to k xs else [])
    by rest true = (all-up-to (λ j. nat_cmp x.sequence j ≡ Less) k xs rise.0, rest)
    by rest false = tt

-- what is up to a sequence of a page is a page that stops earlier
pub kept-page : (t : FolderState) (cursor k : ℕ) (rs : List FileRecord) → IsPage t cursor rs → IsPage t cursor (up_to k rs)
kept-page t cursor k rs page = record {
  rise = up-to-rise k rs page.rise;
  only = λ r i. page.only r (up-to-in k rs r i).0;
  all = λ n r here above. elim (page.all n r here above) [
    | inl i ↦ by n r here (nat_le r.sequence k) refl i
    | inr x ↦ inr (x.0, x.1, x.2, x.3, λ p i. x.4 p (up-to-in k rs p i).0)
  ];
}
  where
    by : (n : Name) (r : FileRecord) → local t n ≡ Some r → (b : Bool) → nat_le r.sequence k ≡ b → Contains rs r → Contains (up_to k rs) r ⊎ Stops t (up_to k rs) r
    by n r here true test i = inl (up-to-has k rs page.rise r i (leb-true r.sequence k test))
    by n r here false test i =
        let over = leb-false r.sequence k test in
        inr (n, r, here, omega arith, λ p j. let below = (up-to-in k rs p j).1 in omega arith)

-- where none is up to the sequence, all are above it
pub up-to-none : (k : ℕ) (rs : List FileRecord) → Rise rs → up_to k rs ≡ [] → (r : FileRecord) → Contains rs r → k < r.sequence
up-to-none k rs rise none r i = by (nat_le r.sequence k) refl
  where
    by : (b : Bool) → nat_le r.sequence k ≡ b → k < r.sequence
    by true t =
        let below = (subst (λ l. Contains l r) none (up-to-has k rs rise r i (leb-true r.sequence k t))).1 in
        absurd (omega arith)
    by false t = leb-false r.sequence k t

pub first-of : (rs : List FileRecord) → 0 < length rs → (r : FileRecord) × Contains rs r
first-of [] some = absurd (omega arith)
first-of (x ∷ xs) some = (x, in-first x xs)

-- where they are fewer, one is above it
pub up-to-short : (k : ℕ) (rs : List FileRecord) → length (up_to k rs) < length rs → (r : FileRecord) × Contains rs r × (k < r.sequence)
up-to-short k [] short = absurd (omega arith)
up-to-short k (x ∷ xs) short = by (up-to-short k xs) (nat_le x.sequence k) refl short
  where
    by : (length (up_to k xs) < length xs → (r : FileRecord) × Contains xs r × (k < r.sequence)) → (b : Bool) → nat_le x.sequence k ≡ b → length (if b then x ∷ up_to k xs else []) < length (x ∷ xs) → (r : FileRecord) × Contains (x ∷ xs) r × (k < r.sequence)
    by rest true t short = let found = rest (omega arith) in (found.0, in-rest x xs found.0 found.1, found.2)
    by rest false t short = (x, in-first x xs, leb-false x.sequence k t)
