-- Where a list is cut in which those that pass a test come first, found from a part of the list.
use Rattle.std.proofs.Common.{append-nil, ◌≡◌, ℕ, zero, suc, ◌+◌, ◌-◌, ◌<◌, ◌≤◌, Bool, true, false, List, [], ◌∷◌, ◌++◌, length, take, drop, refl, sym, ap, subst, ◌∙◌, arith}
use Rattle.std.specs.Prelude.{◌&&◌, bytes_eq, map, Option, Some, None, cond, filter, nat_lt, not, slice_get, slice_index_or, vec_len}
use Rattle.std.specs.List.{list_all}
use Rattle.std.specs.List.Sorted.{IsPartitionedBy}
use Rattle.std.specs.Option.{option_map_or}
use Rattle.std.proofs.lemmas.Bool.{and_parts, false_from_ne_true, true≢false}
use Rattle.std.proofs.lemmas.Grind.{flat_map-append}
use Rattle.std.proofs.lemmas.List.Elements.{filter-append}
use Rattle.std.proofs.lemmas.List.Folds.{list_all-append}
use Rattle.std.proofs.lemmas.List.{drop-append-le, drop_all, length-take-le, take-append-drop, take-append-le}
use Rattle.std.proofs.lemmas.Option.{get_or_from_slice_get, none-some, slice_get_within}
use Rattle.std.proofs.Math.Seq.{drop-append-add, take-append-add}
use Rattle.folder_core.proofs.ListTests.{inside}
use Rattle.sync_record.specs.Records.{Name}
use Rattle.folder_index.specs.declared.chunks.Chunks.{Chunks}
use Rattle.folder_index.specs.declared.chunks.Spot.{Spot}
use Rattle.folder_index.specs.declared.group.Group.{Group}
use Rattle.folder_index.specs.Chunks.{Chunk, IsAt, begins_by, in_chunk, is_lesser, keyed}
use Rattle.folder_index.specs.Groups.{name_in}
use Rattle.folder_index.proofs.Chunked.{flat, got_item, groups_parted, is_less, is_named_at, le_is, sorted_chunk, sorted_left, sorted_right}
use Rattle.folder_index.proofs.Listed.{Sorted}

module _ {A : Type 0} (p : A → Bool) where
  -- those that pass are the first k, and the others are the rest
  pub record IsCut (xs : List A) (k : ℕ) : Type 0 where
    pub front : take k xs ≡ filter p xs
    pub back : drop k xs ≡ filter (λ x. not (p x)) xs

  pub record Pass (xs : List A) : Type 0 where
    pub all : filter p xs ≡ xs
    pub none : filter (λ x. not (p x)) xs ≡ []

  pub record Fail (xs : List A) : Type 0 where
    pub none : filter p xs ≡ []
    pub all : filter (λ x. not (p x)) xs ≡ xs

  -- where one passes, those up to it do
  pub earlier_pass : (xs : List A) → IsPartitionedBy p xs → (e : ℕ) (x : A) → slice_get xs e ≡ Some x → p x ≡ true → (k : ℕ) → k ≤ e + 1 → Pass (take k xs)
  earlier_pass [] parted e x at t k le = absurd (none-some x at)
  earlier_pass (y ∷ ys) parted e x at t zero le = record { all = refl; none = refl }
  earlier_pass (y ∷ ys) parted zero x at t (suc zero) le =
      let first : p y ≡ true = ap p (inside y x at) ∙ t in
      record { all = ap (λ b. cond b (y ∷ []) []) first; none = ap (λ b. cond (not b) (y ∷ []) []) first }
  earlier_pass (y ∷ ys) parted zero x at t (suc (suc k)) le = absurd (omega arith)
  earlier_pass (y ∷ ys) parted (suc e) x at t (suc k) le =
      let short : suc e < length (y ∷ ys) = slice_get_within (y ∷ ys) (suc e) x at in
      let first : p y ≡ true = parted 0 (suc e) x (omega arith) short (ap p (get_or_from_slice_get (y ∷ ys) (suc e) x x at) ∙ t) in
      let rest = earlier_pass ys (λ i j d le short. parted (suc i) (suc j) d (omega arith) (omega arith)) e x at t k (omega arith) in
      record {
        all = ap (λ b. cond b (y ∷ filter p (take k ys)) (filter p (take k ys))) first ∙ ap (λ l. y ∷ l) rest.all;
        none = ap (λ b. cond (not b) (y ∷ filter (λ x. not (p x)) (take k ys)) (filter (λ x. not (p x)) (take k ys))) first ∙ rest.none;
      }

  each_fails : (xs : List A) → ((k : ℕ) (d : A) → k < length xs → p (slice_index_or xs k d) ≡ false) → Fail xs
  each_fails [] each = record { none = refl; all = refl }
  each_fails (x ∷ xs) each =
      let first : p x ≡ false = each 0 x (omega arith) in
      let rest = each_fails xs (λ k d short. each (suc k) d (omega arith)) in
      record {
        none = ap (λ b. cond b (x ∷ filter p xs) (filter p xs)) first ∙ rest.none;
        all = ap (λ b. cond (not b) (x ∷ filter (λ x. not (p x)) xs) (filter (λ x. not (p x)) xs)) first ∙ ap (λ l. x ∷ l) rest.all;
      }

  -- where one fails, those from it on do
  pub later_fail : (xs : List A) → IsPartitionedBy p xs → (e : ℕ) (x : A) → slice_get xs e ≡ Some x → p x ≡ false → Fail (drop e xs)
  later_fail [] parted e x at f = absurd (none-some x at)
  later_fail (y ∷ ys) parted zero x at f = each_fails (y ∷ ys) (λ k d short. false_from_ne_true _ (λ t. true≢false (sym (parted 0 k d (omega arith) short t) ∙ ap p (inside y x at) ∙ f)))
  later_fail (y ∷ ys) parted (suc e) x at f = later_fail ys (λ i j d le short. parted (suc i) (suc j) d (omega arith) (omega arith)) e x at f

  pub cut_before : (ys zs : List A) (k : ℕ) → k ≤ length ys → IsCut ys k → Fail zs → IsCut (ys ++ zs) k
  cut_before ys zs k le cut fail = record {
    front = take-append-le k ys zs le ∙ cut.front ∙ sym (append-nil (filter p ys)) ∙ ap (λ l. filter p ys ++ l) (sym fail.none) ∙ sym (filter-append p ys zs);
    back = drop-append-le k ys zs le ∙ (λ i. cut.back i ++ sym fail.all i) ∙ sym (filter-append (λ x. not (p x)) ys zs);
  }

  pub cut_after : (ys zs : List A) (k : ℕ) → Pass ys → IsCut zs k → IsCut (ys ++ zs) (length ys + k)
  cut_after ys zs k pass cut = record {
    front = take-append-add ys zs k ∙ (λ i. sym pass.all i ++ cut.front i) ∙ sym (filter-append p ys zs);
    back = drop-append-add ys zs k ∙ cut.back ∙ ap (λ l. l ++ filter (λ x. not (p x)) zs) (sym pass.none) ∙ sym (filter-append (λ x. not (p x)) ys zs);
  }

  pub cut_by : (xs : List A) (k : ℕ) → Pass (take k xs) → Fail (drop k xs) → IsCut xs k
  cut_by xs k pass fail = record {
    front = sym (append-nil (take k xs)) ∙ (λ i. sym pass.all i ++ sym fail.none i) ∙ sym (filter-append p (take k xs) (drop k xs)) ∙ ap (filter p) (take-append-drop k xs);
    back = (λ i. sym pass.none i ++ sym fail.all i) ∙ sym (filter-append (λ x. not (p x)) (take k xs) (drop k xs)) ∙ ap (filter (λ x. not (p x))) (take-append-drop k xs);
  }

  none_past : (xs : List A) (i : ℕ) → slice_get xs i ≡ None → drop i xs ≡ []
  none_past [] zero e = refl
  none_past [] (suc i) e = refl
  none_past (x ∷ xs) zero e = absurd (none-some x (sym e))
  none_past (x ∷ xs) (suc i) e = none_past xs i e

  none_fail : Fail []
  none_fail = record { none = refl; all = refl }

  pub none_pass : (xs : List A) (k : ℕ) → k ≡ 0 → Pass (take k xs)
  none_pass xs k none = subst (λ j. Pass (take j xs)) (sym none) (record { all = refl; none = refl })

  -- where the test is asked of what is at a place, if there is anything
  pub pass_at : (xs : List A) → IsPartitionedBy p xs → (i k : ℕ) → option_map_or p (slice_get xs i) false ≡ true → k ≤ i + 1 → Pass (take k xs)
  pass_at xs parted i k t le = by (slice_get xs i) refl t
    where
      by : (o : Option A) → slice_get xs i ≡ o → option_map_or p o false ≡ true → Pass (take k xs)
      by None e t = absurd (true≢false (sym t))
      by (Some x) e t = earlier_pass xs parted i x e t k le

  pub fail_at : (xs : List A) → IsPartitionedBy p xs → (i : ℕ) → option_map_or p (slice_get xs i) false ≡ false → Fail (drop i xs)
  fail_at xs parted i f = by (slice_get xs i) refl f
    where
      by : (o : Option A) → slice_get xs i ≡ o → option_map_or p o false ≡ false → Fail (drop i xs)
      by None e f = subst Fail (sym (none_past xs i e)) none_fail
      by (Some x) e f = later_fail xs parted i x e f

  pub past_fail : (xs : List A) (i : ℕ) → length xs ≤ i → Fail (drop i xs)
  past_fail xs i past = subst Fail (sym (drop_all i xs past)) none_fail

  -- found among the first
  pub cut_front : (xs : List A) (e k : ℕ) → k ≤ length (take e xs) → take k (take e xs) ≡ filter p (take e xs) → drop k (take e xs) ≡ filter (λ x. not (p x)) (take e xs) → Fail (drop e xs) → IsCut xs k
  cut_front xs e k le front back fail = subst (λ l. IsCut l k) (take-append-drop e xs) (cut_before (take e xs) (drop e xs) k le (record { front = front; back = back }) fail)

  -- found from one on
  pub cut_back : (xs : List A) (e k : ℕ) → e ≤ length xs → Pass (take e xs) → take k (drop e xs) ≡ filter p (drop e xs) → drop k (drop e xs) ≡ filter (λ x. not (p x)) (drop e xs) → IsCut xs (e + k)
  cut_back xs e k le pass front back =
      subst (λ l. IsCut l (e + k)) (take-append-drop e xs) (subst (λ m. IsCut (take e xs ++ drop e xs) (m + k)) (length-take-le e xs le) (cut_after (take e xs) (drop e xs) k pass (record { front = front; back = back })))

-- ---- chunks, from one on and up to one

module _ (vs : List Chunk) (k : ℕ) where
  filled_parts : list_all (λ c. nat_lt 0 (vec_len c)) vs ≡ true → (list_all (λ c. nat_lt 0 (vec_len c)) (take k vs) ≡ true) × (list_all (λ c. nat_lt 0 (vec_len c)) (drop k vs) ≡ true)
  filled_parts all = and_parts _ _ (sym (list_all-append (λ (c : Chunk). nat_lt 0 (vec_len c)) (take k vs) (drop k vs)) ∙ ap (list_all (λ (c : Chunk). nat_lt 0 (vec_len c))) (take-append-drop k vs) ∙ all)

  flat_both : flat vs ≡ flat (take k vs) ++ flat (drop k vs)
  flat_both = ap flat (sym (take-append-drop k vs)) ∙ flat_map-append in_chunk (take k vs) (drop k vs)

  pub front_filled : list_all (λ c. nat_lt 0 (vec_len c)) vs ≡ true → list_all (λ c. nat_lt 0 (vec_len c)) (take k vs) ≡ true
  front_filled all = (filled_parts all).0

  pub back_filled : list_all (λ c. nat_lt 0 (vec_len c)) vs ≡ true → list_all (λ c. nat_lt 0 (vec_len c)) (drop k vs) ≡ true
  back_filled all = (filled_parts all).1

  pub front_sorted : Sorted (flat vs) → Sorted (flat (take k vs))
  front_sorted s = sorted_left (flat (take k vs)) (flat (drop k vs)) (subst Sorted flat_both s)

  pub back_sorted : Sorted (flat vs) → Sorted (flat (drop k vs))
  back_sorted s = sorted_right (flat (take k vs)) (flat (drop k vs)) (subst Sorted flat_both s)

-- what a spot that was looked at says
pub at_spot : (n : Name) (s : Spot) (cs : Chunks) → option_map_or (λ (v : Chunk). option_map_or (λ g. bytes_eq (name_in g) n) (slice_get v.items s.place) false) (slice_get cs.chunks.items s.chunk) false ≡ true → IsAt n s cs
at_spot n s cs t = by (slice_get cs.chunks.items s.chunk) refl t
  where
    by : (o : Option Chunk) → slice_get cs.chunks.items s.chunk ≡ o → option_map_or (λ (v : Chunk). option_map_or (λ g. bytes_eq (name_in g) n) (slice_get v.items s.place) false) o false ≡ true → IsAt n s cs
    by None e t = absurd (true≢false (sym t))
    by (Some v) e t = let named = is_named_at n (slice_get v.items s.place) t in record { chunk = v; at = e; group = named.0; is = named.1; named = named.2 }

-- a chunk that has a lesser name begins with one
begins_too : (n : Name) (gs : List Group) → Sorted (map keyed gs) → (i : ℕ) (g : Group) → slice_get gs i ≡ Some g → is_lesser n g ≡ true → begins_by n gs ≡ true
begins_too n [] s i g at t = absurd (none-some g at)
begins_too n (f ∷ fs) s i g at t =
    le_is _ (is_less _ (groups_parted n (f ∷ fs) s 0 i g (omega arith) (slice_get_within (f ∷ fs) i g at) (ap (is_lesser n) (get_or_from_slice_get (f ∷ fs) i g g at) ∙ t)))

pub begun_at : (n : Name) (vs : List Chunk) (c p : ℕ) → Sorted (flat vs) → (nat_lt 0 p && option_map_or (λ (v : Chunk). option_map_or (is_lesser n) (slice_get v.items (p - 1)) false) (slice_get vs c) false) ≡ true → (v : Chunk) × (slice_get vs c ≡ Some v) × (begins_by n v.items ≡ true)
begun_at n vs c p s t = by (slice_get vs c) refl (and_parts _ _ t).1
  where
    by : (o : Option Chunk) → slice_get vs c ≡ o → option_map_or (λ (v : Chunk). option_map_or (is_lesser n) (slice_get v.items (p - 1)) false) o false ≡ true → (v : Chunk) × (slice_get vs c ≡ Some v) × (begins_by n v.items ≡ true)
    by None e t = absurd (true≢false (sym t))
    by (Some v) e t = inner (slice_get v.items (p - 1)) refl t
      where
        inner : (o : Option Group) → slice_get v.items (p - 1) ≡ o → option_map_or (is_lesser n) o false ≡ true → (v : Chunk) × (slice_get vs c ≡ Some v) × (begins_by n v.items ≡ true)
        inner None f t = absurd (true≢false (sym t))
        inner (Some g) f t = (v, e, begins_too n v.items (sorted_chunk vs s v (got_item vs c v e)) (p - 1) g f t)
