-- Of a message's records, sorted stably from the last to the first, the first of each name.
use Rattle.std.proofs.Common.{◌≡◌, ℕ, zero, suc, ◌+◌, ◌<◌, Bool, true, false, List, [], ◌∷◌, length, refl, reverse, sym, ap, subst, ◌∙◌, arith}
use Rattle.std.specs.Prelude.{bytes_eq, ◌&&◌, not, cond, T, pos, Option, Some, None, filter, map, slice_index_or}
use Rattle.std.specs.List.{AllAdjacentBelow, AllByRecursion, dedup, dedup_from, find}
use Rattle.std.specs.List.Sorted.{IsSortedBy, IsStableBy, IsStrictlySortedBy, ties}
use Rattle.std.specs.declared.cmp.Ordering.{Ordering}
use Rattle.std.specs.declared.cmp.Ordering.TheVariants.{Less, Equal, Greater}
use Rattle.std.specs.Bool.{passes}
use Rattle.std.specs.Option.{option_or}
use Rattle.std.proofs.lemmas.List.{reverse-append}
use Rattle.std.proofs.lemmas.List.Folds.{find-append}
use Rattle.std.specs.Ordering.{is_lt, ordering_reverse}
use Rattle.std.specs.Cmp.{IsStrictWeakOrder, both_ways, on_total, tied_itself}
use Rattle.std.specs.Cmp.Lexicographic.{nat_list_cmp_total, texts_ties}
use Rattle.std.specs.FinMap.{is_sorted}
use Rattle.std.specs.FinMap.Entries.{below_all}
use Rattle.std.proofs.lemmas.List.Sorted.{ranks_by}
use Rattle.std.proofs.lemmas.List.Kept.{IsStrictlySortedBy-dedup}
use Rattle.std.proofs.lemmas.Map.Lookups.{exact_bytes}
use Rattle.std.proofs.lemmas.Bool.{and_from, and_parts, false_from_ne_true, not-true, true≢false}
use Rattle.sync_record.specs.Devices.{bytes_cmp}
use Rattle.sync_record.specs.Records.{Name, FileRecord}
use Rattle.folder_core.specs.Plain.{IsLastOfEach, NamesRise, named}
use Rattle.folder_core.proofs.Orders.{is_true}
use Rattle.folder_core.proofs.ListFilters.{join, less_is, none_found}
use Rattle.folder_core.proofs.ReadAnswers.{all_at}
use Rattle.folder_core.proofs.ListTests.{alike_bytes, is_less, parts, same_bytes}

-- records by their names
abbrev pub before : FileRecord → FileRecord → Bool
before q r = is_lt (bytes_cmp q.name r.name)

abbrev pub same_name : FileRecord → FileRecord → Bool
same_name q r = bytes_eq q.name r.name

abbrev pub is_record_of : Name → FileRecord → Bool
is_record_of n r = bytes_eq r.name n

pub before_ranks : IsStrictWeakOrder before
before_ranks = ranks_by nat_list_cmp_total (λ (r : FileRecord). r.name)

-- ---- a stable sort keeps the first record of each name

abbrev first : {A : Type 0} → List A → Option A
first [] = None
first (x ∷ xs) = Some x

find_first : {A : Type 0} (p : A → Bool) (xs : List A) → find p xs ≡ first (filter p xs)
find_first p [] = refl
find_first p (x ∷ xs) =
    elim (p x) as (λ b. cond b (Some x) (find p xs) ≡ first (cond b (x ∷ filter p xs) (filter p xs))) [ true ↦ refl | false ↦ find_first p xs ]

-- some record of this name
any_record : Name → FileRecord
any_record n = record {
  name = n;
  type_number = pos 0;
  size = pos 0;
  permissions = 0;
  modified_s = pos 0;
  modified_ns = pos 0;
  modified_by = 0;
  deleted = false;
  invalid = false;
  no_permissions = false;
  version = [];
  sequence = 0;
  block_size = pos 1;
  blocks = [];
  symlink_target = [];
}

name_of_any : (n : Name) → (any_record n).name ≡ n
unfolding any_record
name_of_any n = refl

tie : (m n : Name) → (not (is_lt (bytes_cmp m n)) && not (is_lt (bytes_cmp n m))) ≡ bytes_eq n m
tie m n =
    both_ways _ _
    (λ t. let b = and_parts _ _ t in alike_bytes n m (sym (exact_bytes m n (neither (bytes_cmp m n) (not-true _ b.0) (ap is_lt (sym (nat_list_cmp_total.antisymm n m)) ∙ not-true _ b.1)))))
    (λ t. let e = same_bytes n m t in and_from _ _ (ap (λ x. not (is_lt (bytes_cmp m x))) e ∙ itself m) (ap (λ x. not (is_lt (bytes_cmp x m))) e ∙ itself m))
  where
    neither : (r : Ordering) → is_lt r ≡ false → is_lt (ordering_reverse r) ≡ false → r ≡ Equal
    neither Less a b = absurd (true≢false a)
    neither Equal a b = refl
    neither Greater a b = absurd (true≢false b)

    itself : (m : Name) → not (is_lt (bytes_cmp m m)) ≡ true
    itself m = ap (λ r. not (is_lt r)) (tied_itself nat_list_cmp_total m)

pub stable_first : (n : Name) (xs ys : List FileRecord) → IsStableBy before xs ys → find (is_record_of n) ys ≡ find (is_record_of n) xs
stable_first n xs ys stable =
    find_first (is_record_of n) ys
    ∙ ap first (tied ys ∙ stable (any_record n) ∙ sym (tied xs))
    ∙ sym (find_first (is_record_of n) xs)
  where
    tied : (zs : List FileRecord) → filter (is_record_of n) zs ≡ filter (ties before (any_record n)) zs
    tied zs = λ i. filter (λ r. sym (ap (λ m. not (is_lt (bytes_cmp m r.name)) && not (is_lt (bytes_cmp r.name m))) (name_of_any n) ∙ tie n r.name) i) zs

-- ---- of neighbours of one name the first stays

dedup_from_first : (n : Name) (k : FileRecord) (xs : List FileRecord) → find (is_record_of n) (dedup_from same_name k xs) ≡ find (is_record_of n) (k ∷ xs)
dedup_from_first n k [] = refl
dedup_from_first n k (x ∷ xs) =
    elim (same_name x k) as (λ b. same_name x k ≡ b → find (is_record_of n) (cond b (dedup_from same_name k xs) (k ∷ dedup_from same_name x xs)) ≡ find (is_record_of n) (k ∷ x ∷ xs)) [
      | true ↦ λ t. dedup_from_first n k xs ∙ twice (is_record_of n k) (is_record_of n x) (ap (λ m. bytes_eq m n) (same_bytes x.name k.name t)) (Some k) (Some x) (find (is_record_of n) xs)
      | false ↦ λ t. ap (cond (is_record_of n k) (Some k)) (dedup_from_first n x xs)
    ] refl
  where
    twice : (a b : Bool) → b ≡ a → (x y z : Option FileRecord) → cond a x z ≡ cond a x (cond b y z)
    twice true b e x y z = refl
    twice false b e x y z = ap (λ c. cond c y z) (sym e)

pub dedup_first : (n : Name) (xs : List FileRecord) → find (is_record_of n) (dedup same_name xs) ≡ find (is_record_of n) xs
dedup_first n [] = refl
dedup_first n (x ∷ xs) = dedup_from_first n x xs

-- ---- and the names rise

all_below : (m : Name) (xs : List FileRecord) → AllByRecursion (λ r. bytes_cmp m r.name ≡ Less) xs → T (below_all bytes_cmp m (map named xs))
all_below m [] h = tt
all_below m (x ∷ xs) h = join _ _ (less_is _ h.0) (all_below m xs h.1)

rise_from : (xs : List FileRecord) → IsStrictlySortedBy (λ q r. bytes_cmp q.name r.name) xs → T (is_sorted bytes_cmp (map named xs))
unfolding IsStrictlySortedBy
rise_from [] h = tt
rise_from (x ∷ xs) h = join _ _ (all_below x.name xs h.0) (rise_from xs h.1)

pub dedup_rises : (xs : List FileRecord) → IsSortedBy before xs → NamesRise (dedup same_name xs)
dedup_rises xs h = is_true _ (rise_from (dedup same_name xs) (IsStrictlySortedBy-dedup (on_total (λ (r : FileRecord). r.name) nat_list_cmp_total) (λ q r. texts_ties q.name r.name) xs h))

-- ---- names that are in order already

-- each record is before the next
abbrev pub InOrder : List FileRecord → Type 0
InOrder rs = (k : ℕ) (d : FileRecord) → suc k < length rs → before (slice_index_or rs k d) (slice_index_or rs (suc k) d) ≡ true

pub in_order : (rs : List FileRecord) → AllAdjacentBelow (λ q r. true ≡ before q r) rs (length rs) → InOrder rs
in_order rs each k d short =
    let more : k + 1 ≡ suc k = omega arith in
    subst (λ j. before (slice_index_or rs k d) (slice_index_or rs j d) ≡ true) more (sym (each k d (omega arith)))

abbrev names_cmp : FileRecord → FileRecord → Ordering
names_cmp q r = bytes_cmp q.name r.name

is_less_of : (r : Ordering) → is_lt r ≡ true → r ≡ Less
is_less_of r e = is_less r (passes _ e)

above : (x y : FileRecord) (ys : List FileRecord) → names_cmp x y ≡ Less → AllByRecursion (λ r. names_cmp y r ≡ Less) ys → AllByRecursion (λ r. names_cmp x r ≡ Less) ys
above x y [] less h = tt
above x y (z ∷ ys) less h = (nat_list_cmp_total.trans x.name y.name z.name less h.0, above x y ys less h.1)

pub in_order_rises : (rs : List FileRecord) → InOrder rs → IsStrictlySortedBy names_cmp rs
unfolding IsStrictlySortedBy
in_order_rises [] each = tt
in_order_rises (x ∷ []) each = (tt, tt)
in_order_rises (x ∷ y ∷ ys) each =
    let rest = in_order_rises (y ∷ ys) (λ k d short. each (suc k) d (omega arith)) in
    let less : names_cmp x y ≡ Less = is_less_of _ (each 0 x (omega arith)) in
    ((less, above x y ys less rest.0), rest)

pub rises_in_order : (rs : List FileRecord) → NamesRise rs → InOrder rs
rises_in_order [] h k d short = absurd (omega arith)
rises_in_order (x ∷ []) h k d short = absurd (omega arith)
rises_in_order (x ∷ y ∷ ys) h zero d short = is_true _ (parts _ _ (parts _ _ (passes _ h)).0).0
rises_in_order (x ∷ y ∷ ys) h (suc k) d short = rises_in_order (y ∷ ys) (is_true _ (parts _ _ (passes _ h)).1) k d (omega arith)

find-reversed : (n : Name) (rs : List FileRecord) → IsStrictlySortedBy names_cmp rs → find (is_record_of n) (reverse rs) ≡ find (is_record_of n) rs
unfolding IsStrictlySortedBy
find-reversed n [] sorted = refl
find-reversed n (x ∷ xs) sorted =
    ap (find (is_record_of n)) (reverse-append (x ∷ []) xs)
    ∙ find-append (is_record_of n) (reverse xs) (x ∷ [])
    ∙ ap (λ o. option_or o (find (is_record_of n) (x ∷ []))) (find-reversed n xs sorted.1)
    ∙ elim (is_record_of n x) as (λ b. is_record_of n x ≡ b → option_or (find (is_record_of n) xs) (cond b (Some x) None) ≡ cond b (Some x) (find (is_record_of n) xs)) [
      | true ↦ λ t. ap (λ o. option_or o (Some x)) (none_found (is_record_of n) xs (λ y i.
          false_from_ne_true (is_record_of n y) (λ u. not_less (same_bytes x.name n t ∙ sym (same_bytes y.name n u)) (all_at (λ r. names_cmp x r ≡ Less) xs y sorted.0 i))))
      | false ↦ λ t. or_none (find (is_record_of n) xs)
    ] refl
  where
    not_less : {a b : Name} → a ≡ b → bytes_cmp a b ≡ Less → ⊥
    not_less {a} {b} same less = true≢false (sym (ap is_lt (sym (ap (bytes_cmp a) (sym same)) ∙ less)) ∙ ap is_lt (tied_itself nat_list_cmp_total a))

    or_none : (o : Option FileRecord) → option_or o None ≡ o
    or_none None = refl
    or_none (Some y) = refl

-- so each is the last of its name
pub already_last : (rs : List FileRecord) → InOrder rs → IsLastOfEach rs rs
already_last rs each =
    let sorted = in_order_rises rs each in
    record { rise = is_true _ (rise_from rs sorted); last = λ n. sym (find-reversed n rs sorted) }

-- names in order aren't found out of order
pub not_out_of_order : (rs : List FileRecord) → InOrder rs → (k : ℕ) × (k + 1 < length rs) × ((d : FileRecord) → false ≡ before (slice_index_or rs k d) (slice_index_or rs (k + 1) d)) → ⊥
not_out_of_order rs each found =
    let k : ℕ = found.0 in
    let d : FileRecord = any_record [] in
    let more : suc k ≡ k + 1 = omega arith in
    let short : suc k < length rs = let s = found.1 in omega arith in
    true≢false (sym (each k d short) ∙ ap (λ j. before (slice_index_or rs k d) (slice_index_or rs j d)) more ∙ sym (found.2 d))
