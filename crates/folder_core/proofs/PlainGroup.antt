-- The entries of one name are side by side, and have the best of it and the devices that have it.
use Rattle.std.proofs.Common.{◌≡◌, ℕ, suc, ◌+◌, ◌<◌, ◌≤◌, Bool, true, false, List, [], ◌∷◌, length, take, drop, refl, sym, ap, ◌∙◌, inl, inr, arith}
use Rattle.std.specs.Prelude.{bytes_eq, ◌&&◌, ◌||◌, not, cond, T, Some, None, filter, map, slice_index_or}
use Rattle.std.specs.Bool.{passes}
use Rattle.std.specs.List.{list_all, find, prefix_len, AllWithin}
use Rattle.std.specs.List.Sorted.{IsPartitionedBy}
use Rattle.std.specs.declared.cmp.Ordering.{Ordering}
use Rattle.std.specs.declared.cmp.Ordering.TheVariants.{Less, Equal, Greater}
use Rattle.std.specs.Ordering.{is_gt, is_le, is_lt, ordering_then}
use Rattle.std.specs.Cmp.{tied_itself}
use Rattle.std.specs.Cmp.Lexicographic.{nat_list_cmp_total}
use Rattle.std.specs.FinMap.Entries.{below_all}
use Rattle.std.proofs.lemmas.Map.Lookups.{exact_bytes}
use Rattle.std.proofs.lemmas.Bool.{and_parts, false_from_ne_true, true≢false}
use Rattle.sync_record.specs.Contents.{same_content}
use Rattle.sync_record.specs.Devices.{bytes_cmp}
use Rattle.sync_record.specs.Records.{Name}
use Rattle.sync_record.specs.Validity.{is_valid}
use Rattle.sync_version.specs.Computed.{dominates, same_version}
use Rattle.folder_core.specs.declared.announcement.Announcement.{Announcement as Entry}
use Rattle.folder_core.specs.Announced.{KeyedRecord, Key, key_cmp, is_of, is_candidate, is_best, best, bests, devices_of, is_by}
use Rattle.folder_core.specs.Reads.{is_after, with_devices}
use Rattle.folder_core.proofs.BestPreferred.{is_preferred}
use Rattle.folder_core.specs.Plain.{Rises, filed}
use Rattle.folder_core.proofs.ListFilters.{none_left, any_filter, filter_filter, filter_in, filter_swap, find_filter, find_same, map_in}
use Rattle.folder_core.proofs.ListTests.{same_bytes, alike_bytes, is_less, of_filter, parts, In}

-- ---- where the entries of a name begin and end

abbrev pub is_before : Name → Entry → Bool
is_before n e = is_lt (bytes_cmp e.record.name n)

abbrev pub is_named : Name → Entry → Bool
is_named n e = bytes_eq e.record.name n

below_at : (k : Key) (es : List Entry) → T (below_all key_cmp k (map filed es)) → (j : ℕ) (d : Entry) → j < length es → key_cmp k (filed (slice_index_or es j d)).0 ≡ Less
below_at k [] b j d short = absurd (omega arith)
below_at k (e ∷ es) b ℕ.zero d short = is_less _ (parts _ _ b).0
below_at k (e ∷ es) b (suc j) d short = below_at k es (parts _ _ b).1 j d (omega arith)

rest_rises : (e : Entry) (es : List Entry) → Rises (e ∷ es) → Rises es
rest_rises e es h = (and_parts _ _ h).1

pub drop_rises : (i : ℕ) (es : List Entry) → Rises es → Rises (drop i es)
drop_rises ℕ.zero es h = h
drop_rises (suc i) [] h = h
drop_rises (suc i) (e ∷ es) h = drop_rises i es (rest_rises e es h)

-- a test that holds of each entry before one of which it holds, where all are of a kind
pub partitioned : (P : Entry → Type 0) (p : Entry → Bool) → ((x y : Entry) → P x → key_cmp (filed x).0 (filed y).0 ≡ Less → p y ≡ true → p x ≡ true) →
    (es : List Entry) → Rises es → ((x : Entry) → In x es → P x) → IsPartitionedBy p es
partitioned P p down [] h each i j d le short t = absurd (omega arith)
partitioned P p down (e ∷ es) h each ℕ.zero ℕ.zero d le short t = t
partitioned P p down (e ∷ es) h each ℕ.zero (suc j) d le short t =
    down e (slice_index_or es j d) (each e (inl refl)) (below_at (filed e).0 es (passes _ (and_parts _ _ h).0) j d (omega arith)) t
partitioned P p down (e ∷ es) h each (suc i) ℕ.zero d le short t = absurd (omega arith)
partitioned P p down (e ∷ es) h each (suc i) (suc j) d le short t =
    partitioned P p down es (rest_rises e es h) (λ x k. each x (inr k)) i j d (omega arith) (omega arith) t

-- the entries up to a partition point are those that pass, and the others are after it
pub front_is : {A : Type 0} (p : A → Bool) (xs : List A) (i : ℕ) → i ≤ length xs → AllWithin (λ y. p y ≡ true) xs 0 i → AllWithin (λ y. p y ≡ false) xs i (length xs) → take i xs ≡ filter p xs
front_is p [] ℕ.zero le pass fail = refl
front_is p [] (suc i) le pass fail = refl
front_is p (x ∷ xs) ℕ.zero le pass fail =
    front_is p xs 0 (omega arith) (λ k d l s. absurd (omega arith)) (λ k d l s. fail (suc k) d (omega arith) (omega arith))
    ∙ ap (λ b. cond b (x ∷ filter p xs) (filter p xs)) (sym (fail 0 x (omega arith) (omega arith)))
front_is p (x ∷ xs) (suc i) le pass fail =
    ap (λ ys. x ∷ ys) (front_is p xs i (omega arith) (λ k d l s. pass (suc k) d (omega arith) (omega arith)) (λ k d l s. fail (suc k) d (omega arith) (omega arith)))
    ∙ ap (λ b. cond b (x ∷ filter p xs) (filter p xs)) (sym (pass 0 x (omega arith) (omega arith)))

pub back_is : {A : Type 0} (p : A → Bool) (xs : List A) (i : ℕ) → i ≤ length xs → AllWithin (λ y. p y ≡ true) xs 0 i → AllWithin (λ y. p y ≡ false) xs i (length xs) → drop i xs ≡ filter (λ x. not (p x)) xs
back_is p [] ℕ.zero le pass fail = refl
back_is p [] (suc i) le pass fail = refl
back_is p (x ∷ xs) ℕ.zero le pass fail =
    ap (λ ys. x ∷ ys) (back_is p xs 0 (omega arith) (λ k d l s. absurd (omega arith)) (λ k d l s. fail (suc k) d (omega arith) (omega arith)))
    ∙ ap (λ b. cond (not b) (x ∷ filter (λ y. not (p y)) xs) (filter (λ y. not (p y)) xs)) (sym (fail 0 x (omega arith) (omega arith)))
back_is p (x ∷ xs) (suc i) le pass fail =
    back_is p xs i (omega arith) (λ k d l s. pass (suc k) d (omega arith) (omega arith)) (λ k d l s. fail (suc k) d (omega arith) (omega arith))
    ∙ ap (λ b. cond (not b) (x ∷ filter (λ y. not (p y)) xs) (filter (λ y. not (p y)) xs)) (sym (pass 0 x (omega arith) (omega arith)))

-- where no element that passes is after one that fails, those from the front on are all that pass
module _ {A : Type 0} (p : A → Bool) where
  -- after one that fails all fail
  rest_fails : (x : A) (xs : List A) → IsPartitionedBy p (x ∷ xs) → p x ≡ false → AllWithin (λ y. p y ≡ false) xs 0 (length xs)
  rest_fails x xs parted f j d le short =
      false_from_ne_true _ (λ t. true≢false (sym (parted 0 (suc j) d (omega arith) (omega arith) t) ∙ f))

  pub prefix_passes : (xs : List A) → IsPartitionedBy p xs → take (prefix_len p xs) xs ≡ filter p xs
  prefix_passes [] parted = refl
  prefix_passes (x ∷ xs) parted =
      let one_more : 1 + prefix_len p xs ≡ suc (prefix_len p xs) = omega arith in
      elim (p x) as (λ b. p x ≡ b → take (cond b (1 + prefix_len p xs) 0) (x ∷ xs) ≡ cond b (x ∷ filter p xs) (filter p xs)) [
        | true ↦ λ t. ap (λ k. take k (x ∷ xs)) one_more ∙ ap (λ ys. x ∷ ys) (prefix_passes xs (λ i j d le short. parted (suc i) (suc j) d (omega arith) (omega arith)))
        | false ↦ λ f. front_is p xs 0 (omega arith) (λ k d l s. absurd (omega arith)) (rest_fails x xs parted f)
      ] refl

  pub after_prefix : (xs : List A) → IsPartitionedBy p xs → drop (prefix_len p xs) xs ≡ filter (λ x. not (p x)) xs
  after_prefix [] parted = refl
  after_prefix (x ∷ xs) parted =
      let one_more : 1 + prefix_len p xs ≡ suc (prefix_len p xs) = omega arith in
      elim (p x) as (λ b. p x ≡ b → drop (cond b (1 + prefix_len p xs) 0) (x ∷ xs) ≡ cond (not b) (x ∷ filter (λ y. not (p y)) xs) (filter (λ y. not (p y)) xs)) [
        | true ↦ λ t. ap (λ k. drop k (x ∷ xs)) one_more ∙ after_prefix xs (λ i j d le short. parted (suc i) (suc j) d (omega arith) (omega arith))
        | false ↦ λ f. ap (λ ys. x ∷ ys) (back_is p xs 0 (omega arith) (λ k d l s. absurd (omega arith)) (rest_fails x xs parted f))
      ] refl

less_before : (r s : Ordering) → ordering_then r s ≡ Less → (r ≡ Less → ⊥) → r ≡ Equal
less_before Less s e f = absurd (f refl)
less_before Equal s e f = refl
less_before Greater s e f = absurd (true≢false (sym (ap is_lt e)))

is_less_of : (r : Ordering) → is_lt r ≡ true → r ≡ Less
is_less_of r e = is_less r (passes _ e)

-- a name before one that is before n
pub before_down : (n : Name) (x y : Entry) → key_cmp (filed x).0 (filed y).0 ≡ Less → is_before n y ≡ true → is_before n x ≡ true
before_down n x y less t =
    let below : bytes_cmp y.record.name n ≡ Less = is_less_of _ t in
    elim (bytes_cmp x.record.name y.record.name) as (λ r. bytes_cmp x.record.name y.record.name ≡ r → ordering_then r (bytes_cmp x.device y.device) ≡ Less → is_lt (bytes_cmp x.record.name n) ≡ true) [
      | Less ↦ λ e l. ap is_lt (nat_list_cmp_total.trans x.record.name y.record.name n e below)
      | Equal ↦ λ e l. ap is_lt (nat_list_cmp_total.congr x.record.name y.record.name n e ∙ below)
      | Greater ↦ λ e l. absurd (true≢false (sym (ap is_lt l)))
    ] refl less

-- a name that isn't before n, before one that is n
pub named_down : (n : Name) (x y : Entry) → is_before n x ≡ false → key_cmp (filed x).0 (filed y).0 ≡ Less → is_named n y ≡ true → is_named n x ≡ true
named_down n x y late less t =
    let there : y.record.name ≡ n = same_bytes y.record.name n t in
    let tie : bytes_cmp x.record.name y.record.name ≡ Equal = less_before _ _ less (λ e. true≢false (sym (ap is_lt e) ∙ ap (λ m. is_lt (bytes_cmp x.record.name m)) there ∙ late)) in
    alike_bytes x.record.name n (exact_bytes x.record.name y.record.name tie ∙ there)

pub named_is_late : (n : Name) (x : Entry) → is_named n x ≡ (not (is_before n x) && is_named n x)
named_is_late n x =
    elim (is_named n x) as (λ b. is_named n x ≡ b → b ≡ (not (is_before n x) && b)) [
      | true ↦ λ t. ap (λ b. not b && true) (sym (ap (λ m. is_lt (bytes_cmp m n)) (same_bytes x.record.name n t) ∙ ap is_lt (tied_itself nat_list_cmp_total n)))
      | false ↦ λ t. sym (none_left (not (is_before n x)))
    ] refl

-- ---- where the entries after a name begin

abbrev pub is_up_to : Name → Entry → Bool
is_up_to n e = is_le (bytes_cmp e.record.name n)

pub up_to_down : (n : Name) (x y : Entry) → key_cmp (filed x).0 (filed y).0 ≡ Less → is_up_to n y ≡ true → is_up_to n x ≡ true
up_to_down n x y less t =
    elim (bytes_cmp x.record.name y.record.name) as (λ r. bytes_cmp x.record.name y.record.name ≡ r → ordering_then r (bytes_cmp x.device y.device) ≡ Less → is_le (bytes_cmp x.record.name n) ≡ true) [
      | Less ↦ λ e l. below e (bytes_cmp y.record.name n) refl t
      | Equal ↦ λ e l. ap is_le (nat_list_cmp_total.congr x.record.name y.record.name n e) ∙ t
      | Greater ↦ λ e l. absurd (true≢false (sym (ap is_lt l)))
    ] refl less
  where
    below : bytes_cmp x.record.name y.record.name ≡ Less → (r : Ordering) → bytes_cmp y.record.name n ≡ r → is_le r ≡ true → is_le (bytes_cmp x.record.name n) ≡ true
    below e Less is t = ap is_le (nat_list_cmp_total.trans x.record.name y.record.name n e is)
    below e Equal is t = ap is_le (ap (bytes_cmp x.record.name) (sym (exact_bytes y.record.name n is)) ∙ e)
    below e Greater is t = absurd (true≢false (sym t))

pub after_of : (n : Name) (es : List Entry) → filter (λ e. not (is_up_to n e)) es ≡ filter (λ e. is_after (Some n) e.record.name) es
after_of n es = filter_in (λ e. not (is_up_to n e)) (λ e. is_after (Some n) e.record.name) es (λ e i. greater (bytes_cmp e.record.name n))
  where
    greater : (r : Ordering) → not (is_le r) ≡ is_gt r
    greater Less = refl
    greater Equal = refl
    greater Greater = refl

pub all_after : (es : List Entry) → filter (λ e. is_after None e.record.name) es ≡ es
all_after [] = refl
all_after (e ∷ es) = ap (λ ys. e ∷ ys) (all_after es)

-- ---- the entries of some names alone

module _ (p : Name → Bool) (es : List KeyedRecord) where
  abbrev pub is_part : KeyedRecord → Bool
  is_part e = p e.0.name

  abbrev pub part : List KeyedRecord
  part = filter is_part es

  of_name : (e f : KeyedRecord) → is_part e ≡ true → is_of e.0.name f ≡ true → is_part f ≡ true
  of_name e f t u = ap p (same_bytes f.0.name e.0.name u) ∙ t

  candidate_in_part : (e : KeyedRecord) → is_part e ≡ true → is_candidate part e ≡ is_candidate es e
  candidate_in_part e t =
      ap (λ b. is_valid e.1 && not b) (any_filter is_part (λ f. is_of e.0.name f && is_valid f.1 && dominates f.1.version e.1.version) es (λ f u. of_name e f t (and_parts _ _ (and_parts _ _ u).0).0))

  best_in_part_test : (e : KeyedRecord) → is_part e ≡ true → is_best part e ≡ is_best es e
  best_in_part_test e t =
      let rivals : filter (λ f. is_of e.0.name f && is_candidate part f) part ≡ filter (λ f. is_of e.0.name f && is_candidate es f) es =
      filter_filter is_part (λ f. is_of e.0.name f && is_candidate part f) (λ f. is_of e.0.name f && is_candidate es f) es (λ f.
      elim (is_of e.0.name f) as (λ b. is_of e.0.name f ≡ b → (b && is_candidate es f) ≡ (is_part f && (b && is_candidate part f))) [
        | true ↦ λ u. sym (candidate_in_part f (of_name e f t u)) ∙ ap (λ b. b && is_candidate part f) (sym (of_name e f t u))
        | false ↦ λ u. sym (none_left (is_part f))
      ] refl) in
      λ i. candidate_in_part e t i && list_all (λ f. is_by e.0.device f || is_preferred e f) (rivals i)

  pub bests_in_part : bests part ≡ filter is_part (bests es)
  bests_in_part =
      filter_in (is_best part) (is_best es) part (λ e i. best_in_part_test e (of_filter is_part es e i).1)
      ∙ filter_swap (is_best es) is_part es

  abbrev has_best : KeyedRecord → KeyedRecord → Bool
  has_best b e = is_of b.0.name e && is_valid e.1 && same_version e.1.version b.1.version && same_content e.1 b.1

  pub devices_in_part : (b : KeyedRecord) → is_part b ≡ true → devices_of part b ≡ devices_of es b
  devices_in_part b t =
      ap (map (λ e. e.0.device)) (filter_filter is_part (has_best b) (has_best b) es (λ e.
      elim (is_of b.0.name e) as (λ u. is_of b.0.name e ≡ u → (u && is_valid e.1 && same_version e.1.version b.1.version && same_content e.1 b.1) ≡ (is_part e && (u && is_valid e.1 && same_version e.1.version b.1.version && same_content e.1 b.1))) [
        | true ↦ λ u. ap (λ x. x && (is_valid e.1 && same_version e.1.version b.1.version && same_content e.1 b.1)) (sym (of_name b e t u))
        | false ↦ λ u. sym (none_left (is_part e))
      ] refl))

  -- the bests of these names, with their devices
  pub found_in_part : map (with_devices part) (bests part) ≡ map (with_devices es) (filter is_part (bests es))
  found_in_part =
      ap (map (with_devices part)) bests_in_part
      ∙ map_in (with_devices part) (with_devices es) (filter is_part (bests es)) (λ b i.
      λ j. (b.1, devices_in_part b (of_filter is_part (bests es) b i).1 j))

-- ---- a name's entries alone

abbrev pub group : Name → List KeyedRecord → List KeyedRecord
group n es = filter (is_of n) es

pub best_in_group : (n : Name) (es : List KeyedRecord) → best (group n es) n ≡ best es n
best_in_group n es =
    ap (find (is_of n)) (bests_in_part (λ m. bytes_eq m n) es)
    ∙ find_filter (is_of n) (is_of n) (bests es)
    ∙ find_same (λ e. is_of n e && is_of n e) (is_of n) (bests es) (λ e. twice (is_of n e))
  where
    twice : (b : Bool) → (b && b) ≡ b
    twice true = refl
    twice false = refl

pub devices_in_group : (n : Name) (es : List KeyedRecord) (b : KeyedRecord) → b.0.name ≡ n → devices_of es b ≡ devices_of (group n es) b
devices_in_group n es b named = sym (devices_in_part (λ m. bytes_eq m n) es b (alike_bytes b.0.name n named))
