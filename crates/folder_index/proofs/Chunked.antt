-- The groups by name, as they are kept in chunks.
use Rattle.std.proofs.Common.{Bor, append-nil, get_or, ◌≡◌, ℕ, zero, suc, ◌+◌, ◌-◌, ◌^◌, ◌<◌, ◌≤◌, Bool, true, false, List, [], ◌∷◌, ◌++◌, length, take, drop, refl, sym, ap, subst, ◌∙◌, ◌⊎◌, inl, inr, arith}
use Rattle.std.specs.Prelude.{Contains, Vec, bytes_eq, cond, filter, flat_map, map, nat_lt, is_some, not, Option, Some, None, IfSome, option_copied, slice_get, slice_index_or, slice_set, vec_len}
use Rattle.std.specs.BTreeMap.{insert_entry, is_at}
use Rattle.std.specs.Map.{keys_of, lookup, remove_entry, set_value}
use Rattle.std.specs.Ordering.{is_eq, is_gt, is_lt, match_ordering, ordering_reverse}
use Rattle.std.specs.Cmp.{tied_itself}
use Rattle.std.specs.List.{AllByRecursion, insert, list_all, remove}
use Rattle.std.specs.Vec.{with_item}
use Rattle.std.specs.Option.{option_map_or}
use Rattle.std.specs.List.Sorted.{IsPartitionedBy, IsStrictlySortedBy}
use Rattle.std.specs.declared.alloc.Global.{Global}
use Rattle.std.specs.declared.cmp.Ordering.{Ordering}
use Rattle.std.specs.declared.cmp.Ordering.TheVariants.{Less, Equal, Greater}
use Rattle.std.proofs.lemmas.Bool.{and_from, and_parts, lt-ltb, ltb-false, ltb-true, true≢false}
use Rattle.std.proofs.lemmas.Grind.{flat_map-append}
use Rattle.std.proofs.lemmas.List.Elements.{filter-append}
use Rattle.std.proofs.lemmas.List.Folds.{list_all-append}
use Rattle.std.proofs.lemmas.List.{append_assoc, take_all, take_rest, length-append, length-map, map-append, take-append-drop, take-map, drop-map}
use Rattle.std.proofs.lemmas.Map.Keys.{sorted_head, sorted_tail}
use Rattle.std.proofs.lemmas.Map.Lookups.{exact_bytes}
use Rattle.std.proofs.lemmas.Option.{get_or_from_slice_get, none-some, slice_get-get_or, slice_get_past, slice_get_read, slice_get_within}
use Rattle.sync_record.specs.Devices.{bytes_cmp}
use Rattle.sync_record.specs.Records.{Name}
use Rattle.folder_core.specs.Reads.{is_after}
use Rattle.folder_core.proofs.BestList.{apart}
use Rattle.folder_core.proofs.ListTests.{In, alike_bytes, all_in, contains_in, in_map, inside, of_filter, of_map, same_bytes}
use Rattle.folder_core.proofs.Orders.{bytes_total}
use Rattle.folder_index.specs.declared.chunks.Chunks.{Chunks}
use Rattle.folder_index.specs.declared.chunks.Spot.{Spot}
use Rattle.folder_index.specs.declared.group.Group.{Group}
use Rattle.folder_index.specs.Chunks.{AreFilled, Chunk, IsAt, IsCounted, IsGap, IsSearchable, before, begins_by, chunk_at, from_on, groups_in, in_chunk, is_lesser, keyed}
use Rattle.folder_index.specs.Groups.{name_in}
use Rattle.folder_index.proofs.Lists.{all_at, in_parts, keeps_none}
use Rattle.folder_index.proofs.Listed.{Groups, Sorted, at_itself, at_other, in_lookup}

-- ---- a list of groups in order, in two parts

in_right : {A : Type 0} (xs ys : List A) (y : A) → In y ys → In y (xs ++ ys)
in_right [] ys y i = i
in_right (x ∷ xs) ys y i = inr (in_right xs ys y i)

in_left : {A : Type 0} (xs ys : List A) (x : A) → In x xs → In x (xs ++ ys)
in_left [] ys x i = absurd i
in_left (z ∷ xs) ys x (inl e) = inl e
in_left (z ∷ xs) ys x (inr i) = inr (in_left xs ys x i)

abbrev key_of : Name × Group → Name
key_of e = e.0

pub sorted_right : (xs ys : Groups) → Sorted (xs ++ ys) → Sorted ys
sorted_right [] ys s = s
sorted_right (x ∷ xs) ys s = sorted_right xs ys (sorted_tail bytes_cmp x.0 (keys_of (xs ++ ys)) s)

pub sorted_across : (xs ys : Groups) → Sorted (xs ++ ys) → (x y : Name × Group) → In x xs → In y ys → bytes_cmp x.0 y.0 ≡ Less
sorted_across [] ys s x y i j = absurd i
sorted_across (z ∷ xs) ys s x y (inl e) j =
    (λ i. bytes_cmp (e i).0 y.0)
    ∙ all_at (λ m. bytes_cmp z.0 m ≡ Less) (keys_of (xs ++ ys)) (sorted_head bytes_cmp z.0 (keys_of (xs ++ ys)) s) y.0 (in_map key_of (xs ++ ys) y (in_right xs ys y j))
sorted_across (z ∷ xs) ys s x y (inr i) j = sorted_across xs ys (sorted_tail bytes_cmp z.0 (keys_of (xs ++ ys)) s) x y i j

-- all names of a list
pub all_names : (P : Name → Type 0) (xs : Groups) → ((x : Name × Group) → In x xs → P x.0) → AllByRecursion P (keys_of xs)
all_names P [] each = tt
all_names P (x ∷ xs) each = (each x (inl refl), all_names P xs (λ y i. each y (inr i)))

pub name_at : (P : Name → Type 0) (xs : Groups) → AllByRecursion P (keys_of xs) → (x : Name × Group) → In x xs → P x.0
name_at P xs all x i = all_at P (keys_of xs) all x.0 (in_map key_of xs x i)

reversed : (m n : Name) → bytes_cmp m n ≡ Less → bytes_cmp n m ≡ Greater
reversed m n less = bytes_total.antisymm n m ∙ ap ordering_reverse less

pub not_at : (m n : Name) → bytes_cmp m n ≡ Less → is_at (bytes_cmp n) m ≡ false
not_at m n less = at_other n m (λ e. apart m n less (sym e))

module _ (n : Name) (g : Group) where
  pub set_mid : (h : Group) (xs ys : Groups) → Sorted (xs ++ (n, g) ∷ ys) → set_value (is_at (bytes_cmp n)) (xs ++ (n, g) ∷ ys) h ≡ xs ++ (n, h) ∷ ys
  set_mid h [] ys s = ap (λ b. cond b ((n, h) ∷ ys) ((n, g) ∷ set_value (is_at (bytes_cmp n)) ys h)) (at_itself n)
  set_mid h (x ∷ xs) ys s =
      let less = sorted_across (x ∷ xs) ((n, g) ∷ ys) s x (n, g) (inl refl) (inl refl) in
      ap (λ b. cond b ((x.0, h) ∷ xs ++ (n, g) ∷ ys) (x ∷ set_value (is_at (bytes_cmp n)) (xs ++ (n, g) ∷ ys) h)) (not_at x.0 n less)
      ∙ ap (λ l. x ∷ l) (set_mid h xs ys (sorted_tail bytes_cmp x.0 (keys_of (xs ++ (n, g) ∷ ys)) s))

  pub remove_mid : (xs ys : Groups) → Sorted (xs ++ (n, g) ∷ ys) → remove_entry (is_at (bytes_cmp n)) (xs ++ (n, g) ∷ ys) ≡ xs ++ ys
  remove_mid [] ys s = ap (λ b. cond b ys ((n, g) ∷ remove_entry (is_at (bytes_cmp n)) ys)) (at_itself n)
  remove_mid (x ∷ xs) ys s =
      let less = sorted_across (x ∷ xs) ((n, g) ∷ ys) s x (n, g) (inl refl) (inl refl) in
      ap (λ b. cond b (xs ++ (n, g) ∷ ys) (x ∷ remove_entry (is_at (bytes_cmp n)) (xs ++ (n, g) ∷ ys))) (not_at x.0 n less)
      ∙ ap (λ l. x ∷ l) (remove_mid xs ys (sorted_tail bytes_cmp x.0 (keys_of (xs ++ (n, g) ∷ ys)) s))

  pub insert_mid : (xs ys : Groups) → AllByRecursion (λ m. bytes_cmp m n ≡ Less) (keys_of xs) → AllByRecursion (λ m. bytes_cmp n m ≡ Less) (keys_of ys) → insert_entry bytes_cmp (xs ++ ys) n g ≡ xs ++ (n, g) ∷ ys
  insert_mid [] [] lesser greater = refl
  insert_mid [] (y ∷ ys) lesser greater = ap (λ o. match_ordering o ((n, g) ∷ y ∷ ys) ((y.0, g) ∷ ys) (y ∷ insert_entry bytes_cmp ys n g)) greater.0
  insert_mid (x ∷ xs) ys lesser greater =
      ap (λ o. match_ordering o ((n, g) ∷ x ∷ xs ++ ys) ((x.0, g) ∷ xs ++ ys) (x ∷ insert_entry bytes_cmp (xs ++ ys) n g)) (reversed x.0 n lesser.0)
      ∙ ap (λ l. x ∷ l) (insert_mid xs ys lesser.1 greater)

none_greater : (n : Name) (ys : Groups) → AllByRecursion (λ m. bytes_cmp n m ≡ Less) (keys_of ys) → lookup (is_at (bytes_cmp n)) ys ≡ None
none_greater n [] greater = refl
none_greater n (y ∷ ys) greater = ap (λ o. cond (is_eq o) (Some y.1) (lookup (is_at (bytes_cmp n)) ys)) greater.0 ∙ none_greater n ys greater.1

pub lookup_gap : (n : Name) (xs ys : Groups) → AllByRecursion (λ m. bytes_cmp m n ≡ Less) (keys_of xs) → AllByRecursion (λ m. bytes_cmp n m ≡ Less) (keys_of ys) → lookup (is_at (bytes_cmp n)) (xs ++ ys) ≡ None
lookup_gap n [] ys lesser greater = none_greater n ys greater
lookup_gap n (x ∷ xs) ys lesser greater = ap (λ b. cond b (Some x.1) (lookup (is_at (bytes_cmp n)) (xs ++ ys))) (not_at x.0 n lesser.0) ∙ lookup_gap n xs ys lesser.1 greater

-- ---- the groups of chunks

abbrev pub flat : List Chunk → Groups
flat vs = flat_map in_chunk vs

parts_at : (vs : List Chunk) (c : ℕ) (v : Chunk) → slice_get vs c ≡ Some v → flat vs ≡ flat (take c vs) ++ (in_chunk v ++ flat (drop (suc c) vs))
parts_at [] c v e = absurd (none-some v e)
parts_at (w ∷ vs) zero v e = ap (λ x. in_chunk x ++ flat vs) (inside w v e)
parts_at (w ∷ vs) (suc c) v e =
    ap (λ l. in_chunk w ++ l) (parts_at vs c v e)
    ∙ sym (append_assoc (in_chunk w) (flat (take c vs)) (in_chunk v ++ flat (drop (suc c) vs)))

pub flat_parts : (vs : List Chunk) (c : ℕ) (v : Chunk) → slice_get vs c ≡ Some v → flat vs ≡ flat (take c vs) ++ (in_chunk v ++ flat (drop (c + 1) vs))
flat_parts vs c v e = parts_at vs c v e ∙ (let next : suc c ≡ c + 1 = omega arith in λ i. flat (take c vs) ++ (in_chunk v ++ flat (drop (next i) vs)))

set_at : (vs : List Chunk) (c : ℕ) (v w : Chunk) → slice_get vs c ≡ Some v → flat (slice_set vs c w) ≡ flat (take c vs) ++ (in_chunk w ++ flat (drop (suc c) vs))
set_at [] c v w e = absurd (none-some v e)
set_at (x ∷ vs) zero v w e = refl
set_at (x ∷ vs) (suc c) v w e =
    ap (λ l. in_chunk x ++ l) (set_at vs c v w e)
    ∙ sym (append_assoc (in_chunk x) (flat (take c vs)) (in_chunk w ++ flat (drop (suc c) vs)))

-- with another chunk in the place of one
pub flat_set : (vs : List Chunk) (c : ℕ) (v w : Chunk) → slice_get vs c ≡ Some v → flat (slice_set vs c w) ≡ flat (take c vs) ++ (in_chunk w ++ flat (drop (c + 1) vs))
flat_set vs c v w e = set_at vs c v w e ∙ (let next : suc c ≡ c + 1 = omega arith in λ i. flat (take c vs) ++ (in_chunk w ++ flat (drop (next i) vs)))

-- ---- a name among chunks

some_first : (v : Chunk) → nat_lt 0 (vec_len v) ≡ true → (g : Group) × (gs : List Group) × (v.items ≡ g ∷ gs)
some_first v t = by v.items refl
  where
    by : (l : List Group) → v.items ≡ l → (g : Group) × (gs : List Group) × (v.items ≡ g ∷ gs)
    by [] e = absurd (true≢false (sym t ∙ ap (nat_lt 0) (v.ok.0 ∙ ap (λ (l : List Group). length l) e)))
    by (g ∷ gs) e = (g, gs, e)

less_le : (a b n : Name) → bytes_cmp a b ≡ Less → not (is_gt (bytes_cmp b n)) ≡ true → bytes_cmp a n ≡ Less
less_le a b n less le = by (bytes_cmp b n) refl
  where
    by : (o : Ordering) → bytes_cmp b n ≡ o → bytes_cmp a n ≡ Less
    by Less e = bytes_total.trans a b n less e
    by Equal e = ap (bytes_cmp a) (sym (exact_bytes b n e)) ∙ less
    by Greater e = absurd (true≢false (sym le ∙ ap (λ o. not (is_gt o)) e))

le_less : (a b n : Name) → bytes_cmp a b ≡ Less → is_lt (bytes_cmp b n) ≡ true → bytes_cmp a n ≡ Less
le_less a b n less t = less_le a b n less (by (bytes_cmp b n) t)
  where
    by : (o : Ordering) → is_lt o ≡ true → not (is_gt o) ≡ true
    by Less e = refl
    by Equal e = refl
    by Greater e = absurd (true≢false (sym e))

pub is_less : (o : Ordering) → is_lt o ≡ true → o ≡ Less
is_less Less e = refl
is_less Equal e = absurd (true≢false (sym e))
is_less Greater e = absurd (true≢false (sym e))

lt_is : (o : Ordering) → o ≡ Less → is_lt o ≡ true
lt_is o e = ap is_lt e

pub le_is : (o : Ordering) → o ≡ Less → not (is_gt o) ≡ true
le_is o e = ap (λ o. not (is_gt o)) e

-- a greater name
after_it : (a n : Name) → not (is_gt (bytes_cmp a n)) ≡ false → bytes_cmp n a ≡ Less
after_it a n f = by (bytes_cmp a n) refl
  where
    by : (o : Ordering) → bytes_cmp a n ≡ o → bytes_cmp n a ≡ Less
    by Less e = absurd (true≢false (ap (λ o. not (is_gt o)) (sym e) ∙ f))
    by Equal e = absurd (true≢false (ap (λ o. not (is_gt o)) (sym e) ∙ f))
    by Greater e = bytes_total.antisymm n a ∙ ap ordering_reverse e

after_other : (a n : Name) → is_lt (bytes_cmp a n) ≡ false → bytes_eq a n ≡ false → bytes_cmp n a ≡ Less
after_other a n f other = by (bytes_cmp a n) refl
  where
    by : (o : Ordering) → bytes_cmp a n ≡ o → bytes_cmp n a ≡ Less
    by Less e = absurd (true≢false (ap is_lt (sym e) ∙ f))
    by Equal e = absurd (true≢false (sym (alike_bytes a n (exact_bytes a n e)) ∙ other))
    by Greater e = bytes_total.antisymm n a ∙ ap ordering_reverse e

in_flat : (vs : List Chunk) (x : Name × Group) → In x (flat vs) → (v : Chunk) × In v vs × In x (in_chunk v)
in_flat [] x i = absurd i
in_flat (v ∷ vs) x i = by (in_flat vs x) (in_parts (in_chunk v) (flat vs) x i)
  where
    by : (In x (flat vs) → (w : Chunk) × In w vs × In x (in_chunk w)) → In x (in_chunk v) ⊎ In x (flat vs) → (w : Chunk) × ((w ≡ v) ⊎ In w vs) × In x (in_chunk w)
    by rest (inl j) = (v, inl refl, j)
    by rest (inr j) = let r = rest j in (r.0, inr r.1, r.2)

to_flat : (vs : List Chunk) (v : Chunk) → In v vs → (x : Name × Group) → In x (in_chunk v) → In x (flat vs)
to_flat [] v i x j = absurd i
to_flat (w ∷ vs) v (inl e) x j = in_left (in_chunk w) (flat vs) x (subst (λ w. In x (in_chunk w)) e j)
to_flat (w ∷ vs) v (inr i) x j = in_right (in_chunk w) (flat vs) x (to_flat vs v i x j)

pub sorted_left : (xs ys : Groups) → Sorted (xs ++ ys) → Sorted xs
unfolding IsStrictlySortedBy
sorted_left [] ys s = tt
sorted_left (x ∷ xs) ys s = (all_names (λ m. bytes_cmp x.0 m ≡ Less) xs (λ y i. name_at (λ m. bytes_cmp x.0 m ≡ Less) (xs ++ ys) (sorted_head bytes_cmp x.0 (keys_of (xs ++ ys)) s) y (in_left xs ys y i)), sorted_left xs ys (sorted_tail bytes_cmp x.0 (keys_of (xs ++ ys)) s))

pub first_sorted : (n : Name) (g : Group) (ys : Groups) → AllByRecursion (λ m. bytes_cmp n m ≡ Less) (keys_of ys) → Sorted ys → Sorted ((n, g) ∷ ys)
unfolding IsStrictlySortedBy
first_sorted n g ys greater s = (greater, s)

pub sorted_chunk : (vs : List Chunk) → Sorted (flat vs) → (v : Chunk) → In v vs → Sorted (in_chunk v)
sorted_chunk [] s v i = absurd i
sorted_chunk (w ∷ vs) s v (inl e) = subst (λ x. Sorted (in_chunk x)) (sym e) (sorted_left (in_chunk w) (flat vs) s)
sorted_chunk (w ∷ vs) s v (inr i) = sorted_chunk vs (sorted_right (in_chunk w) (flat vs) s) v i

pub in_item : {A : Type 0} (xs : List A) (j : ℕ) (d : A) → j < length xs → In (slice_index_or xs j d) xs
in_item [] j d short = absurd (omega arith)
in_item (x ∷ xs) zero d short = inl refl
in_item (x ∷ xs) (suc j) d short = inr (in_item xs j d (omega arith))

module _ (n : Name) where
  -- the first name of the one is less than that of the other
  begins_earlier : (v w : Chunk) → ((x y : Name × Group) → In x (in_chunk v) → In y (in_chunk w) → bytes_cmp x.0 y.0 ≡ Less) → nat_lt 0 (vec_len w) ≡ true → begins_by n w.items ≡ true → begins_by n v.items ≡ true
  begins_earlier v w across some t = by v.items refl (some_first w some)
    where
      by : (l : List Group) → v.items ≡ l → (g : Group) × (gs : List Group) × (w.items ≡ g ∷ gs) → begins_by n l ≡ true
      by [] e f = refl
      by (x ∷ l) e f =
          let y = f.0 in
          let less : bytes_cmp (name_in x) (name_in y) ≡ Less = across (keyed x) (keyed y) (subst (λ l. In (keyed x) (map keyed l)) (sym e) (inl refl)) (subst (λ l. In (keyed y) (map keyed l)) (sym f.2) (inl refl)) in
          le_is _ (less_le (name_in x) (name_in y) n less (sym (ap (begins_by n) f.2) ∙ t))

  pub chunks_parted : (vs : List Chunk) → list_all (λ c. nat_lt 0 (vec_len c)) vs ≡ true → Sorted (flat vs) → IsPartitionedBy (λ (v : Chunk). begins_by n v.items) vs
  chunks_parted [] filled s i j d le short t = absurd (omega arith)
  chunks_parted (v ∷ vs) filled s zero zero d le short t = t
  chunks_parted (v ∷ vs) filled s zero (suc j) d le short t =
      let w = slice_index_or vs j d in
      let i : In w vs = in_item vs j d (omega arith) in
      begins_earlier v w (λ x y a b. sorted_across (in_chunk v) (flat vs) s x y a (to_flat vs w i y b)) (all_in (λ (c : Chunk). nat_lt 0 (vec_len c)) vs (and_parts _ _ filled).1 w i) t
  chunks_parted (v ∷ vs) filled s (suc i) zero d le short t = absurd (omega arith)
  chunks_parted (v ∷ vs) filled s (suc i) (suc j) d le short t = chunks_parted vs (and_parts _ _ filled).1 (sorted_right (in_chunk v) (flat vs) s) i j d (omega arith) (omega arith) t

  pub groups_parted : (gs : List Group) → Sorted (map keyed gs) → IsPartitionedBy (is_lesser n) gs
  groups_parted [] s i j d le short t = absurd (omega arith)
  groups_parted (g ∷ gs) s zero zero d le short t = t
  groups_parted (g ∷ gs) s zero (suc j) d le short t =
      let h = slice_index_or gs j d in
      let less : bytes_cmp (name_in g) (name_in h) ≡ Less = name_at (λ m. bytes_cmp (name_in g) m ≡ Less) (map keyed gs) (sorted_head bytes_cmp (name_in g) (keys_of (map keyed gs)) s) (keyed h) (in_map keyed gs h (in_item gs j d (omega arith))) in
      lt_is _ (le_less (name_in g) (name_in h) n less t)
  groups_parted (g ∷ gs) s (suc i) zero d le short t = absurd (omega arith)
  groups_parted (g ∷ gs) s (suc i) (suc j) d le short t = groups_parted gs (sorted_tail bytes_cmp (name_in g) (keys_of (map keyed gs)) s) i j d (omega arith) (omega arith) t

  module _ (vs : List Chunk) (filled : list_all (λ c. nat_lt 0 (vec_len c)) vs ≡ true) (s : Sorted (flat vs)) where
    pub lesser_before : (c p : ℕ) (v : Chunk) → slice_get vs c ≡ Some v → nat_lt 0 (vec_len v) ≡ true → begins_by n v.items ≡ true → ((g : Group) → In g (take p v.items) → is_lesser n g ≡ true) → (x : Name × Group) → In x (flat (take c vs) ++ take p (in_chunk v)) → bytes_cmp x.0 n ≡ Less
    lesser_before c p v at some begins lesser x i = by (in_parts (flat (take c vs)) (take p (in_chunk v)) x i)
      where
        by : In x (flat (take c vs)) ⊎ In x (take p (in_chunk v)) → bytes_cmp x.0 n ≡ Less
        by (inl j) =
            let f = some_first v some in
            let there : In (keyed f.0) (in_chunk v ++ flat (drop (c + 1) vs)) = in_left (in_chunk v) (flat (drop (c + 1) vs)) (keyed f.0) (subst (λ l. In (keyed f.0) (map keyed l)) (sym f.2) (inl refl)) in
            let less = sorted_across (flat (take c vs)) (in_chunk v ++ flat (drop (c + 1) vs)) (subst Sorted (flat_parts vs c v at) s) x (keyed f.0) j there in
            less_le x.0 (name_in f.0) n less (sym (ap (begins_by n) f.2) ∙ begins)
        by (inr j) =
            let g = of_map keyed (take p v.items) x (subst (In x) (take-map keyed p v.items) j) in
            (λ i. bytes_cmp (sym g.2 i).0 n) ∙ is_less _ (lesser g.0 g.1)

    pub greater_after : (k : ℕ) → ((w : Chunk) → In w (drop k vs) → begins_by n w.items ≡ false) → (x : Name × Group) → In x (flat (drop k vs)) → bytes_cmp n x.0 ≡ Less
    greater_after k later x i =
        let f = in_flat (drop k vs) x i in
        let w = f.0 in
        let among : In w vs = subst (In w) (take-append-drop k vs) (in_right (take k vs) (drop k vs) w f.1) in
        let first = some_first w (all_in (λ (c : Chunk). nat_lt 0 (vec_len c)) vs filled w among) in
        by first.0 first.1 (subst (λ l. begins_by n l ≡ false) first.2 (later w f.1)) (subst (λ l. Sorted (map keyed l)) first.2 (sorted_chunk vs s w among)) (subst (λ l. In x (map keyed l)) first.2 f.2)
      where
        by : (g : Group) (gs : List Group) → begins_by n (g ∷ gs) ≡ false → Sorted (map keyed (g ∷ gs)) → In x (map keyed (g ∷ gs)) → bytes_cmp n x.0 ≡ Less
        by g gs f s (inl e) = ap (bytes_cmp n) (ap key_of e) ∙ after_it (name_in g) n f
        by g gs f s (inr j) = bytes_total.trans n (name_in g) x.0 (after_it (name_in g) n f) (name_at (λ m. bytes_cmp (name_in g) m ≡ Less) (map keyed gs) (sorted_head bytes_cmp (name_in g) (keys_of (map keyed gs)) s) x j)

  -- where the first of the rest is another name, and none of them is less, all are greater
  pub greater_rest : (gs : List Group) (p : ℕ) → Sorted (map keyed gs) → ((g : Group) → In g (drop p gs) → is_lesser n g ≡ false) → option_map_or (λ g. bytes_eq (name_in g) n) (slice_get gs p) false ≡ false → (x : Name × Group) → In x (drop p (map keyed gs)) → bytes_cmp n x.0 ≡ Less
  greater_rest [] zero s none other x i = absurd i
  greater_rest [] (suc p) s none other x i = absurd i
  greater_rest (g ∷ gs) zero s none other x (inl e) = ap (bytes_cmp n) (ap key_of e) ∙ after_other (name_in g) n (none g (inl refl)) other
  greater_rest (g ∷ gs) zero s none other x (inr j) =
      bytes_total.trans n (name_in g) x.0 (after_other (name_in g) n (none g (inl refl)) other) (name_at (λ m. bytes_cmp (name_in g) m ≡ Less) (map keyed gs) (sorted_head bytes_cmp (name_in g) (keys_of (map keyed gs)) s) x j)
  greater_rest (g ∷ gs) (suc p) s none other x i = greater_rest gs p (sorted_tail bytes_cmp (name_in g) (keys_of (map keyed gs)) s) none other x i

take_item : {A : Type 0} (xs : List A) (c k : ℕ) (x : A) → slice_get xs c ≡ Some x → c < k → In x (take k xs)
take_item [] c k x e short = absurd (none-some x e)
take_item (y ∷ xs) c zero x e short = absurd (omega arith)
take_item (y ∷ xs) zero (suc k) x e short = inl (sym (inside y x e))
take_item (y ∷ xs) (suc c) (suc k) x e short = inr (take_item xs c k x e (omega arith))

pub got_item : {A : Type 0} (xs : List A) (c : ℕ) (x : A) → slice_get xs c ≡ Some x → In x xs
got_item [] c x e = absurd (none-some x e)
got_item (y ∷ xs) zero x e = inl (sym (inside y x e))
got_item (y ∷ xs) (suc c) x e = inr (got_item xs c x e)

pub not_true : (b : Bool) → not b ≡ true → b ≡ false
not_true true e = absurd (true≢false (sym e))
not_true false e = refl

-- what holds of a chunk that begins before a name
module _ (n : Name) (cs : Chunks) (is : IsSearchable cs) where
  abbrev those : List Chunk
  those = cs.chunks.items

  pub chunk_sorted : (c : ℕ) (v : Chunk) → slice_get those c ≡ Some v → Sorted (in_chunk v)
  chunk_sorted c v at = sorted_chunk those is.ordered v (got_item those c v at)

  chunk_filled : (c : ℕ) (v : Chunk) → slice_get those c ≡ Some v → nat_lt 0 (vec_len v) ≡ true
  chunk_filled c v at = all_in (λ (v : Chunk). nat_lt 0 (vec_len v)) those is.filled v (got_item those c v at)

  -- no chunk begins before it
  pub gap_first : (k : ℕ) → k ≡ 0 → drop k those ≡ filter (λ v. not (begins_by n v.items)) those → IsGap n (record { chunk = 0; place = 0 }) cs
  gap_first k none others = record {
    inside = λ some. some;
    fits = omega arith;
    lesser = subst (λ l. AllByRecursion (λ m. bytes_cmp m n ≡ Less) (keys_of l)) (sym none_before) tt;
    greater = subst (λ l. AllByRecursion (λ m. bytes_cmp n m ≡ Less) (keys_of l)) (sym all_after) (all_names (λ m. bytes_cmp n m ≡ Less) (flat those) (greater_after n those is.filled is.ordered 0 (λ w i. not_true _ (of_filter (λ (v : Chunk). not (begins_by n v.items)) those w (subst (In w) (sym (ap (λ j. drop j those) none) ∙ others) i)).1)));
  }
    where
      no_first : {A : Type 0} (xs : List A) → take 0 xs ≡ []
      no_first [] = refl
      no_first (x ∷ xs) = refl

      all_of : {A : Type 0} (xs : List A) → drop 0 xs ≡ xs
      all_of [] = refl
      all_of (x ∷ xs) = refl

      none_before : before (record { chunk = 0; place = 0 }) cs ≡ []
      none_before = (λ i. flat (no_first those i) ++ no_first (chunk_at cs 0) i)

      by : (vs : List Chunk) → option_map_or in_chunk (slice_get vs 0) [] ++ flat (drop 1 vs) ≡ flat vs
      by [] = refl
      by (v ∷ vs) = refl

      all_after : from_on (record { chunk = 0; place = 0 }) cs ≡ flat those
      all_after = ap (λ l. l ++ flat (drop 1 those)) (all_of (chunk_at cs 0)) ∙ by those

  module _ (k c p : ℕ) (v : Chunk) (next : k ≡ c + 1) (at : slice_get those c ≡ Some v) (begun : take k those ≡ filter (λ v. begins_by n v.items) those) (later : drop k those ≡ filter (λ v. not (begins_by n v.items)) those) (inside_chunk : p ≤ length v.items) (lesser : take p v.items ≡ filter (is_lesser n) v.items) (rest : drop p v.items ≡ filter (λ g. not (is_lesser n g)) v.items) where
    abbrev here : Spot
    here = record { chunk = c; place = p }

    at_chunk : chunk_at cs c ≡ in_chunk v
    at_chunk = ap (λ o. option_map_or in_chunk o []) at

    pub gap_in : option_map_or (λ g. bytes_eq (name_in g) n) (slice_get v.items p) false ≡ false → IsGap n here cs
    gap_in other = record {
      inside = λ some. let short = slice_get_within those c v at in let len = cs.chunks.ok.0 in omega arith;
      fits = let len = ap (λ (l : Groups). length l) at_chunk in let all = length-map v.items keyed in omega arith;
      lesser = all_names (λ m. bytes_cmp m n ≡ Less) (before here cs) (λ x i.
          lesser_before n those is.filled is.ordered c p v at (chunk_filled c v at)
          (of_filter (λ (v : Chunk). begins_by n v.items) those v (subst (In v) begun (take_item those c k v at (omega arith)))).1
          (λ g j. (of_filter (is_lesser n) v.items g (subst (In g) lesser j)).1)
          x (subst (λ l. In x (flat (take c those) ++ take p l)) at_chunk i));
      greater = all_names (λ m. bytes_cmp n m ≡ Less) (from_on here cs) (λ x i. by x (in_parts (drop p (in_chunk v)) (flat (drop (c + 1) those)) x (subst (λ l. In x (drop p l ++ flat (drop (c + 1) those))) at_chunk i)));
    }
      where
        by : (x : Name × Group) → In x (drop p (in_chunk v)) ⊎ In x (flat (drop (c + 1) those)) → bytes_cmp n x.0 ≡ Less
        by x (inl i) = greater_rest n v.items p (chunk_sorted c v at) (λ g j. not_true _ (of_filter (λ g. not (is_lesser n g)) v.items g (subst (In g) rest j)).1) other x i
        by x (inr i) = greater_after n those is.filled is.ordered (c + 1) (λ w j. not_true _ (of_filter (λ (v : Chunk). not (begins_by n v.items)) those w (subst (In w) (sym (ap (λ j. drop j those) next) ∙ later) j)).1) x i

-- ---- at a spot

module _ (cs : Chunks) (s : Spot) where
  abbrev pub chunks : List Chunk
  chunks = cs.chunks.items

  module _ (v : Chunk) (at : slice_get cs.chunks.items s.chunk ≡ Some v) where
    pub chunk_is : chunk_at cs s.chunk ≡ in_chunk v
    chunk_is = ap (λ o. option_map_or in_chunk o []) at

    pub parts_are : groups_in cs ≡ before s cs ++ from_on s cs
    parts_are =
        flat_parts chunks s.chunk v at
        ∙ ap (λ l. flat (take s.chunk chunks) ++ (l ++ flat (drop (s.chunk + 1) chunks))) (sym (take-append-drop s.place (in_chunk v)))
        ∙ ap (λ l. flat (take s.chunk chunks) ++ l) (append_assoc (take s.place (in_chunk v)) (drop s.place (in_chunk v)) (flat (drop (s.chunk + 1) chunks)))
        ∙ sym (append_assoc (flat (take s.chunk chunks)) (take s.place (in_chunk v)) (drop s.place (in_chunk v) ++ flat (drop (s.chunk + 1) chunks)))
        ∙ (λ i. (flat (take s.chunk chunks) ++ take s.place (sym chunk_is i)) ++ (drop s.place (sym chunk_is i) ++ flat (drop (s.chunk + 1) chunks)))

pub is_named_at : (n : Name) (o : Option Group) → option_map_or (λ g. bytes_eq (name_in g) n) o false ≡ true → (g : Group) × (o ≡ Some g) × (name_in g ≡ n)
is_named_at n None t = absurd (true≢false (sym t))
is_named_at n (Some g) t = (g, refl, same_bytes (name_in g) n t)

pub none_begun : (k : ℕ) → (1 ≤ k → ⊥) → k ≡ 0
none_begun zero none = refl
none_begun (suc k) none = absurd (none (omega arith))

-- what `get` finds
pub got_at : {A : Type 0} (xs : List A) (i : ℕ) (r : Option (Bor A)) → (is_some r ≡ nat_lt i (length xs)) × IfSome r (λ x. x.now ≡ get_or xs i x.now) → option_copied r ≡ slice_get xs i
got_at xs i None h = sym (slice_get_past xs i (ltb-false i (length xs) (sym h.0)))
got_at xs i (Some x) h = sym (slice_get-get_or xs i x.now (ltb-true i (length xs) (sym h.0)) ∙ ap Some (sym h.1))

filled_at : (vs : List Chunk) (c : ℕ) (w : Chunk) → list_all (λ v. nat_lt 0 (vec_len v)) vs ≡ true → nat_lt 0 (vec_len w) ≡ true → list_all (λ v. nat_lt 0 (vec_len v)) (slice_set vs c w) ≡ true
filled_at [] c w filled some = refl
filled_at (v ∷ vs) zero w filled some = and_from (nat_lt 0 (vec_len w)) (list_all (λ v. nat_lt 0 (vec_len v)) vs) some (and_parts _ _ filled).1
filled_at (v ∷ vs) (suc c) w filled some = and_from (nat_lt 0 (vec_len v)) (list_all (λ v. nat_lt 0 (vec_len v)) (slice_set vs c w)) (and_parts _ _ filled).0 (filled_at vs c w (and_parts _ _ filled).1 some)

keyed_set : (gs : List Group) (p : ℕ) (g h : Group) → slice_get gs p ≡ Some g → map keyed (slice_set gs p h) ≡ take p (map keyed gs) ++ keyed h ∷ drop (suc p) (map keyed gs)
keyed_set [] p g h e = absurd (none-some g e)
keyed_set (x ∷ gs) zero g h e = refl
keyed_set (x ∷ gs) (suc p) g h e = ap (λ l. keyed x ∷ l) (keyed_set gs p g h e)

keyed_get : (gs : List Group) (p : ℕ) (g : Group) → slice_get gs p ≡ Some g → map keyed gs ≡ take p (map keyed gs) ++ keyed g ∷ drop (suc p) (map keyed gs)
keyed_get [] p g e = absurd (none-some g e)
keyed_get (x ∷ gs) zero g e = ap (λ y. keyed y ∷ map keyed gs) (inside x g e)
keyed_get (x ∷ gs) (suc p) g e = ap (λ l. keyed x ∷ l) (keyed_get gs p g e)

-- ---- with another chunk in the place of one

abbrev pub with_chunk : Chunks → ℕ → Chunk → Chunks
with_chunk cs c w = record { chunks = with_item cs.chunks c w; count = cs.count }

pub filled_set : (cs : Chunks) (c : ℕ) (w : Chunk) → AreFilled cs → 0 < vec_len w → AreFilled (with_chunk cs c w)
filled_set cs c w filled some = filled_at cs.chunks.items c w filled (lt-ltb 0 (vec_len w) some)

module _ (cs : Chunks) (c : ℕ) (v : Chunk) (at : slice_get cs.chunks.items c ≡ Some v) where
  pub same_groups : (w : Chunk) → w.items ≡ v.items → groups_in (with_chunk cs c w) ≡ groups_in cs
  same_groups w same =
      flat_set cs.chunks.items c v w at
      ∙ ap (λ (gs : List Group). flat (take c cs.chunks.items) ++ (map keyed gs ++ flat (drop (c + 1) cs.chunks.items))) same
      ∙ sym (flat_parts cs.chunks.items c v at)

  -- a group more
  pub put_groups : (w : Chunk) (p : ℕ) (g : Group) → w.items ≡ insert v.items p g → groups_in (with_chunk cs c w) ≡ before (record { chunk = c; place = p }) cs ++ keyed g ∷ from_on (record { chunk = c; place = p }) cs
  put_groups w p g put =
      let front = flat (take c cs.chunks.items) in
      let back = flat (drop (c + 1) cs.chunks.items) in
      flat_set cs.chunks.items c v w at
      ∙ ap (λ (gs : List Group). front ++ (map keyed gs ++ back)) put
      ∙ ap (λ l. front ++ (l ++ back)) (map-append keyed (take p v.items) (g ∷ drop p v.items) ∙ (λ i. sym (take-map keyed p v.items) i ++ keyed g ∷ sym (drop-map keyed p v.items) i))
      ∙ ap (λ l. front ++ l) (append_assoc (take p (in_chunk v)) (keyed g ∷ drop p (in_chunk v)) back)
      ∙ sym (append_assoc front (take p (in_chunk v)) (keyed g ∷ (drop p (in_chunk v) ++ back)))
      ∙ (λ i. (front ++ take p (sym (chunk_is cs (record { chunk = c; place = p }) v at) i)) ++ (keyed g ∷ (drop p (sym (chunk_is cs (record { chunk = c; place = p }) v at) i) ++ back)))

  module _ (p : ℕ) (g : Group) (is : slice_get v.items p ≡ Some g) where
    abbrev pub front_at : Groups
    front_at = flat (take c cs.chunks.items) ++ take p (in_chunk v)

    abbrev pub back_at : Groups
    back_at = drop (suc p) (in_chunk v) ++ flat (drop (c + 1) cs.chunks.items)

    mid : (h : Group) → flat (take c cs.chunks.items) ++ ((take p (in_chunk v) ++ keyed h ∷ drop (suc p) (in_chunk v)) ++ flat (drop (c + 1) cs.chunks.items)) ≡ front_at ++ keyed h ∷ back_at
    mid h =
        ap (λ l. flat (take c cs.chunks.items) ++ l) (append_assoc (take p (in_chunk v)) (keyed h ∷ drop (suc p) (in_chunk v)) (flat (drop (c + 1) cs.chunks.items)))
        ∙ sym (append_assoc (flat (take c cs.chunks.items)) (take p (in_chunk v)) (keyed h ∷ (drop (suc p) (in_chunk v) ++ flat (drop (c + 1) cs.chunks.items))))

    groups_at : groups_in cs ≡ front_at ++ keyed g ∷ back_at
    groups_at =
        flat_parts cs.chunks.items c v at
        ∙ ap (λ l. flat (take c cs.chunks.items) ++ (l ++ flat (drop (c + 1) cs.chunks.items))) (keyed_get v.items p g is)
        ∙ mid g

    module _ (s : Sorted (groups_in cs)) (n : Name) (named : name_in g ≡ n) where
      pub sorted_at : Sorted (front_at ++ (n, g) ∷ back_at)
      sorted_at = subst Sorted (groups_at ∙ ap (λ m. front_at ++ (m, g) ∷ back_at) named) s

      pub groups_named : groups_in cs ≡ front_at ++ (n, g) ∷ back_at
      groups_named = groups_at ∙ ap (λ m. front_at ++ (m, g) ∷ back_at) named

      -- the group is found at the spot
      pub found_group : lookup (is_at (bytes_cmp n)) (groups_in cs) ≡ Some g
      found_group =
          ap (lookup (is_at (bytes_cmp n))) groups_named
          ∙ in_lookup (front_at ++ (n, g) ∷ back_at) sorted_at n g (in_right front_at ((n, g) ∷ back_at) (n, g) (inl refl))

      -- another one of the name in its place
      pub write_groups : (h : Group) → name_in h ≡ n → groups_in (with_chunk cs c (with_item v p h)) ≡ set_value (is_at (bytes_cmp n)) (groups_in cs) h
      write_groups h named_too =
          flat_set cs.chunks.items c v (with_item v p h) at
          ∙ ap (λ l. flat (take c cs.chunks.items) ++ (l ++ flat (drop (c + 1) cs.chunks.items))) (keyed_set v.items p g h is)
          ∙ mid h
          ∙ ap (λ m. front_at ++ (m, h) ∷ back_at) named_too
          ∙ sym (set_mid n g h front_at back_at sorted_at)
          ∙ ap (λ l. set_value (is_at (bytes_cmp n)) l h) (sym groups_named)

      -- it is taken away
      pub take_groups : (w : Chunk) → w.items ≡ remove v.items p → groups_in (with_chunk cs c w) ≡ remove_entry (is_at (bytes_cmp n)) (groups_in cs)
      take_groups w taken =
          flat_set cs.chunks.items c v w at
          ∙ ap (λ (gs : List Group). flat (take c cs.chunks.items) ++ (map keyed gs ++ flat (drop (c + 1) cs.chunks.items))) taken
          ∙ ap (λ l. flat (take c cs.chunks.items) ++ (l ++ flat (drop (c + 1) cs.chunks.items))) (map-append keyed (take p v.items) (drop (suc p) v.items) ∙ (λ i. sym (take-map keyed p v.items) i ++ sym (drop-map keyed (suc p) v.items) i))
          ∙ ap (λ l. flat (take c cs.chunks.items) ++ l) (append_assoc (take p (in_chunk v)) (drop (suc p) (in_chunk v)) (flat (drop (c + 1) cs.chunks.items)))
          ∙ sym (append_assoc (flat (take c cs.chunks.items)) (take p (in_chunk v)) back_at)
          ∙ sym (remove_mid n g front_at back_at sorted_at)
          ∙ ap (remove_entry (is_at (bytes_cmp n))) (sym groups_named)

-- ---- what `find` tells

pub found_at : (n : Name) (cs : Chunks) (s : Spot) → IsSearchable cs → (a : IsAt n s cs) → lookup (is_at (bytes_cmp n)) (groups_in cs) ≡ Some a.group
found_at n cs s is a = found_group cs s.chunk a.chunk a.at s.place a.group a.is is.ordered n a.named

-- the groups of a gap's spot
pub gap_parts : (n : Name) (cs : Chunks) (s : Spot) → IsGap n s cs → groups_in cs ≡ before s cs ++ from_on s cs
gap_parts n cs s gap = by (slice_get cs.chunks.items s.chunk) refl
  where
    none : (vs : List Chunk) (c : ℕ) → length vs ≤ c → flat vs ≡ flat (take c vs)
    none [] zero le = refl
    none [] (suc c) le = refl
    none (v ∷ vs) zero le = absurd (omega arith)
    none (v ∷ vs) (suc c) le = ap (λ l. in_chunk v ++ l) (none vs c (omega arith))

    no_rest : (vs : List Chunk) (c : ℕ) → length vs ≤ c → flat (drop c vs) ≡ []
    no_rest [] zero le = refl
    no_rest [] (suc c) le = refl
    no_rest (v ∷ vs) zero le = absurd (omega arith)
    no_rest (v ∷ vs) (suc c) le = no_rest vs c (omega arith)

    take_none : {A : Type 0} (p : ℕ) → take {A = A} p [] ≡ []
    take_none zero = refl
    take_none (suc p) = refl

    drop_none : {A : Type 0} (p : ℕ) → drop {A = A} p [] ≡ []
    drop_none zero = refl
    drop_none (suc p) = refl

    past : (o : Option Chunk) → slice_get cs.chunks.items s.chunk ≡ o → o ≡ None → length cs.chunks.items ≤ s.chunk
    past o e f = not_within cs.chunks.items s.chunk (e ∙ f)
      where
        not_within : (vs : List Chunk) (c : ℕ) → slice_get vs c ≡ None → length vs ≤ c
        not_within [] c e = omega arith
        not_within (v ∷ vs) zero e = absurd (none-some v (sym e))
        not_within (v ∷ vs) (suc c) e = (let le = not_within vs c e in omega arith)

    by : (o : Option Chunk) → slice_get cs.chunks.items s.chunk ≡ o → groups_in cs ≡ before s cs ++ from_on s cs
    by (Some v) e = parts_are cs s v e
    by None e =
        let le = past None e refl in
        let nothing : chunk_at cs s.chunk ≡ [] = ap (λ o. option_map_or in_chunk o []) e in
        none cs.chunks.items s.chunk le
        ∙ sym ((λ i. (flat (take s.chunk cs.chunks.items) ++ (ap (take s.place) nothing ∙ take_none s.place) i) ++ ((ap (drop s.place) nothing ∙ drop_none s.place) i ++ no_rest cs.chunks.items (s.chunk + 1) (omega arith) i))
        ∙ append-nil (flat (take s.chunk cs.chunks.items) ++ [])
        ∙ append-nil (flat (take s.chunk cs.chunks.items)))

pub absent_at : (n : Name) (cs : Chunks) (s : Spot) → IsGap n s cs → lookup (is_at (bytes_cmp n)) (groups_in cs) ≡ None
absent_at n cs s gap = ap (lookup (is_at (bytes_cmp n))) (gap_parts n cs s gap) ∙ lookup_gap n (before s cs) (from_on s cs) gap.lesser gap.greater

-- a group that is put into a gap
pub put_in_gap : (n : Name) (g : Group) (cs : Chunks) (s : Spot) → IsGap n s cs → before s cs ++ (n, g) ∷ from_on s cs ≡ insert_entry bytes_cmp (groups_in cs) n g
put_in_gap n g cs s gap = sym (ap (λ l. insert_entry bytes_cmp l n g) (gap_parts n cs s gap) ∙ insert_mid n g (before s cs) (from_on s cs) gap.lesser gap.greater)

-- ---- as the code reads it

pub chunk_read : (cs : Chunks) (c : ℕ) (v : Chunk) → c < vec_len cs.chunks → v ≡ slice_index_or cs.chunks.items c v → slice_get cs.chunks.items c ≡ Some v
chunk_read cs c v short is = slice_get_read cs.chunks.items (length cs.chunks.items) c v refl (let len = cs.chunks.ok.0 in omega arith) is

pub filled_chunk : (cs : Chunks) (c : ℕ) (v : Chunk) → AreFilled cs → slice_get cs.chunks.items c ≡ Some v → 0 < vec_len v
filled_chunk cs c v filled at = ltb-true 0 (vec_len v) (all_in (λ (v : Chunk). nat_lt 0 (vec_len v)) cs.chunks.items filled v (got_item cs.chunks.items c v at))

pub group_read : (n : Name) (cs : Chunks) (s : Spot) (a : IsAt n s cs) (v : Chunk) (g : Group) → v ≡ slice_index_or cs.chunks.items s.chunk v → g ≡ slice_index_or v.items s.place g → (a.chunk ≡ v) × (a.group ≡ g)
group_read n cs s a v g is_v is_g =
    let same : a.chunk ≡ v = sym (is_v ∙ get_or_from_slice_get cs.chunks.items s.chunk a.chunk v a.at) in
    (same, sym (is_g ∙ ap (λ (w : Chunk). slice_index_or w.items s.place g) (sym same) ∙ get_or_from_slice_get a.chunk.items s.place a.group g a.is))

-- ---- chunks that begin, end and part

filled_insert : (vs : List Chunk) (k : ℕ) (w : Chunk) → list_all (λ v. nat_lt 0 (vec_len v)) vs ≡ true → nat_lt 0 (vec_len w) ≡ true → list_all (λ v. nat_lt 0 (vec_len v)) (insert vs k w) ≡ true
filled_insert vs k w filled some =
    let p : Chunk → Bool = λ v. nat_lt 0 (vec_len v) in
    let both = and_parts (list_all p (take k vs)) (list_all p (drop k vs)) (sym (list_all-append p (take k vs) (drop k vs)) ∙ ap (list_all p) (take-append-drop k vs) ∙ filled) in
    list_all-append p (take k vs) (w ∷ drop k vs) ∙ and_from _ _ both.0 (and_from _ _ some both.1)

filled_remove : (vs : List Chunk) (k : ℕ) → list_all (λ v. nat_lt 0 (vec_len v)) vs ≡ true → list_all (λ v. nat_lt 0 (vec_len v)) (remove vs k) ≡ true
filled_remove [] zero filled = refl
filled_remove [] (suc k) filled = refl
filled_remove (v ∷ vs) zero filled = (and_parts _ _ filled).1
filled_remove (v ∷ vs) (suc k) filled = and_from _ _ (and_parts _ _ filled).0 (filled_remove vs k (and_parts _ _ filled).1)

pub begun_filled : (cs : Chunks) (k : ℕ) (w : Chunk) (new : Vec Chunk Global) (count : ℕ) → AreFilled cs → 0 < vec_len w → new.items ≡ insert cs.chunks.items k w → AreFilled (record { chunks = new; count = count })
begun_filled cs k w new count filled some is = ap (list_all (λ (v : Chunk). nat_lt 0 (vec_len v))) is ∙ filled_insert cs.chunks.items k w filled (lt-ltb 0 (vec_len w) some)

pub ended_filled : (cs : Chunks) (k : ℕ) (new : Vec Chunk Global) (count : ℕ) → AreFilled cs → new.items ≡ remove cs.chunks.items k → AreFilled (record { chunks = new; count = count })
ended_filled cs k new count filled is = ap (list_all (λ (v : Chunk). nat_lt 0 (vec_len v))) is ∙ filled_remove cs.chunks.items k filled

part_flat : (vs : List Chunk) (c : ℕ) (v lower upper : Chunk) → slice_get vs c ≡ Some v → lower.items ++ upper.items ≡ v.items → flat (insert (slice_set vs c lower) (suc c) upper) ≡ flat vs
part_flat [] c v lower upper e same = absurd (none-some v e)
part_flat (w ∷ vs) zero v lower upper e same =
    sym (append_assoc (in_chunk lower) (in_chunk upper) (flat vs))
    ∙ ap (λ l. l ++ flat vs) (sym (map-append keyed lower.items upper.items) ∙ ap (map keyed) same ∙ ap in_chunk (sym (inside w v e)))
part_flat (w ∷ vs) (suc c) v lower upper e same = ap (λ l. in_chunk w ++ l) (part_flat vs c v lower upper e same)

pub parted_groups : (cs : Chunks) (c : ℕ) (v lower upper : Chunk) (new : Vec Chunk Global) (count : ℕ) → slice_get cs.chunks.items c ≡ Some v → lower.items ++ upper.items ≡ v.items → new.items ≡ insert (slice_set cs.chunks.items c lower) (c + 1) upper → groups_in (record { chunks = new; count = count }) ≡ groups_in cs
parted_groups cs c v lower upper new count at same is =
    ap flat is
    ∙ (let next : c + 1 ≡ suc c = omega arith in ap (λ k. flat (insert (slice_set cs.chunks.items c lower) k upper)) next)
    ∙ part_flat cs.chunks.items c v lower upper at same

-- a chunk that begins after the one of a spot at its end
pub begun_after : (cs : Chunks) (s : Spot) (v : Chunk) (g : Group) → slice_get cs.chunks.items s.chunk ≡ Some v → s.place ≡ length v.items → flat (take (s.chunk + 1) cs.chunks.items) ++ keyed g ∷ flat (drop (s.chunk + 1) cs.chunks.items) ≡ before s cs ++ keyed g ∷ from_on s cs
begun_after cs s v g at end =
    let vs = cs.chunks.items in
    let len = length-map v.items keyed in
    let back = flat (drop (s.chunk + 1) vs) in
    (λ i. (next vs s.chunk v at i) ++ keyed g ∷ back)
    ∙ sym (λ i. (flat (take s.chunk vs) ++ (ap (take s.place) (chunk_is cs s v at) ∙ take_all s.place (in_chunk v) (omega arith)) i) ++ (keyed g ∷ ((ap (drop s.place) (chunk_is cs s v at) ∙ drop_past s.place (in_chunk v) (omega arith)) i ++ back)))
  where
    next_at : (vs : List Chunk) (c : ℕ) (v : Chunk) → slice_get vs c ≡ Some v → flat (take (suc c) vs) ≡ flat (take c vs) ++ in_chunk v
    next_at [] c v e = absurd (none-some v e)
    next_at (w ∷ vs) zero v e = append-nil (in_chunk w) ∙ ap in_chunk (inside w v e)
    next_at (w ∷ vs) (suc c) v e = ap (λ l. in_chunk w ++ l) (next_at vs c v e) ∙ sym (append_assoc (in_chunk w) (flat (take c vs)) (in_chunk v))

    next : (vs : List Chunk) (c : ℕ) (v : Chunk) → slice_get vs c ≡ Some v → flat (take (c + 1) vs) ≡ flat (take c vs) ++ in_chunk v
    next vs c v e = (let one : c + 1 ≡ suc c = omega arith in ap (λ k. flat (take k vs)) one) ∙ next_at vs c v e

    drop_past : {A : Type 0} (k : ℕ) (xs : List A) → length xs ≤ k → drop k xs ≡ []
    drop_past zero [] le = refl
    drop_past (suc k) [] le = refl
    drop_past zero (x ∷ xs) le = absurd (omega arith)
    drop_past (suc k) (x ∷ xs) le = drop_past k xs (omega arith)

-- the first chunk
pub begun_first : (cs : Chunks) (n : Name) (g : Group) → vec_len cs.chunks ≡ 0 → flat (take 0 cs.chunks.items) ++ (n, g) ∷ flat (drop 0 cs.chunks.items) ≡ insert_entry bytes_cmp (groups_in cs) n g
begun_first cs n g none = by cs.chunks.items (sym cs.chunks.ok.0 ∙ none)
  where
    by : (vs : List Chunk) → length vs ≡ 0 → flat (take 0 vs) ++ (n, g) ∷ flat (drop 0 vs) ≡ insert_entry bytes_cmp (flat vs) n g
    by [] e = refl
    by (v ∷ vs) e = absurd (omega arith)

-- nothing to take away
pub remove_absent : (n : Name) (gs : Groups) → lookup (is_at (bytes_cmp n)) gs ≡ None → gs ≡ remove_entry (is_at (bytes_cmp n)) gs
remove_absent n [] none = refl
remove_absent n (h ∷ gs) none =
    elim (is_at (bytes_cmp n) h.0) as (λ b. cond b (Some h.1) (lookup (is_at (bytes_cmp n)) gs) ≡ None → h ∷ gs ≡ cond b gs (h ∷ remove_entry (is_at (bytes_cmp n)) gs)) [
      | true ↦ λ e. absurd (none-some h.1 (sym e))
      | false ↦ λ e. ap (λ l. h ∷ l) (remove_absent n gs e)
    ] none

-- the only group of a chunk is taken away with it
pub end_groups : (cs : Chunks) (c : ℕ) (v : Chunk) (g : Group) (new : Vec Chunk Global) (count : ℕ) → slice_get cs.chunks.items c ≡ Some v → vec_len v ≡ 1 → (p : ℕ) → slice_get v.items p ≡ Some g → Sorted (groups_in cs) → (n : Name) → name_in g ≡ n → new.items ≡ remove cs.chunks.items c → groups_in (record { chunks = new; count = count }) ≡ remove_entry (is_at (bytes_cmp n)) (groups_in cs)
end_groups cs c v g new count at one p is s n named removed =
    let vs = cs.chunks.items in
    ap flat removed ∙ flat_map-append in_chunk (take c vs) (drop (suc c) vs)
    ∙ (let next : suc c ≡ c + 1 = omega arith in ap (λ k. flat (take c vs) ++ flat (drop k vs)) next)
    ∙ sym (remove_mid n g (flat (take c vs)) (flat (drop (c + 1) vs)) (subst Sorted whole s))
    ∙ ap (remove_entry (is_at (bytes_cmp n))) (sym whole)
  where
    only : (l : List Group) (p : ℕ) → length l ≡ 1 → slice_get l p ≡ Some g → l ≡ g ∷ []
    only [] p e i = absurd (omega arith)
    only (x ∷ []) zero e i = ap (λ y. y ∷ []) (inside x g i)
    only (x ∷ []) (suc p) e i = absurd (none-some g i)
    only (x ∷ y ∷ l) p e i = absurd (omega arith)

    whole : groups_in cs ≡ flat (take c cs.chunks.items) ++ (n, g) ∷ flat (drop (c + 1) cs.chunks.items)
    whole =
        flat_parts cs.chunks.items c v at
        ∙ ap (λ (l : List Group). flat (take c cs.chunks.items) ++ (map keyed l ++ flat (drop (c + 1) cs.chunks.items))) (only v.items p (sym v.ok.0 ∙ one) is)
        ∙ ap (λ m. flat (take c cs.chunks.items) ++ (m, g) ∷ flat (drop (c + 1) cs.chunks.items)) named

-- ---- the groups after a name

module _ (n : Name) where
  abbrev is_later : Name × Group → Bool
  is_later h = is_gt (bytes_cmp h.0 n)

  later_of : (m : Name) → bytes_cmp n m ≡ Less → is_gt (bytes_cmp m n) ≡ true
  later_of m less = ap is_gt (reversed n m less)

  earlier_of : (m : Name) → bytes_cmp m n ≡ Less → is_gt (bytes_cmp m n) ≡ false
  earlier_of m less = ap is_gt less

  keeps_later : (ys : Groups) → ((y : Name × Group) → In y ys → bytes_cmp n y.0 ≡ Less) → filter is_later ys ≡ ys
  keeps_later [] each = refl
  keeps_later (y ∷ ys) each = ap (λ b. cond b (y ∷ filter is_later ys) (filter is_later ys)) (later_of y.0 (each y (inl refl))) ∙ ap (λ l. y ∷ l) (keeps_later ys (λ x i. each x (inr i)))

  pub later_gap : (cs : Chunks) (s : Spot) → IsGap n s cs → from_on s cs ≡ filter is_later (groups_in cs)
  later_gap cs s gap =
      sym (ap (filter is_later) (gap_parts n cs s gap)
      ∙ filter-append is_later (before s cs) (from_on s cs)
      ∙ (λ i. keeps_none is_later (before s cs) (λ x j. earlier_of x.0 (name_at (λ m. bytes_cmp m n ≡ Less) (before s cs) gap.lesser x j)) i
      ++ keeps_later (from_on s cs) (λ y j. name_at (λ m. bytes_cmp n m ≡ Less) (from_on s cs) gap.greater y j) i))

  pub later_at : (cs : Chunks) (s : Spot) (next : ℕ) → next ≡ s.place + 1 → Sorted (groups_in cs) → (a : IsAt n s cs) → from_on (record { chunk = s.chunk; place = next }) cs ≡ filter is_later (groups_in cs)
  later_at cs s next one sorted a =
      let front = front_at cs s.chunk a.chunk a.at s.place a.group a.is in
      let back = back_at cs s.chunk a.chunk a.at s.place a.group a.is in
      let whole = groups_named cs s.chunk a.chunk a.at s.place a.group a.is sorted n a.named in
      let up = sorted_at cs s.chunk a.chunk a.at s.place a.group a.is sorted n a.named in
      let suc_is : next ≡ suc s.place = omega arith in
      (λ i. drop (suc_is i) (chunk_is cs s a.chunk a.at i) ++ flat (drop (s.chunk + 1) cs.chunks.items))
      ∙ sym (ap (filter is_later) whole
      ∙ filter-append is_later front ((n, a.group) ∷ back)
      ∙ (λ i. keeps_none is_later front (λ x j. earlier_of x.0 (sorted_across front ((n, a.group) ∷ back) up x (n, a.group) j (inl refl))) i
      ++ (ap (λ b. cond b ((n, a.group) ∷ filter is_later back) (filter is_later back)) (ap is_gt (tied_itself bytes_total n))
      ∙ keeps_later back (λ y j. sorted_from n a.group back (sorted_right front ((n, a.group) ∷ back) up) y j)) i))
    where
      sorted_from : (n : Name) (g : Group) (ys : Groups) → Sorted ((n, g) ∷ ys) → (y : Name × Group) → In y ys → bytes_cmp n y.0 ≡ Less
      sorted_from n g ys s y i = name_at (λ m. bytes_cmp n m ≡ Less) ys (sorted_head bytes_cmp n (keys_of ys) s) y i

all_later : (gs : Groups) → gs ≡ filter (λ h. is_after None h.0) gs
all_later [] = refl
all_later (g ∷ gs) = ap (λ l. g ∷ l) (all_later gs)

pub later_all : (cs : Chunks) → from_on (record { chunk = 0; place = 0 }) cs ≡ filter (λ h. is_after None h.0) (groups_in cs)
later_all cs = by cs.chunks.items ∙ all_later (groups_in cs)
  where
    all_of : {A : Type 0} (xs : List A) → drop 0 xs ≡ xs
    all_of [] = refl
    all_of (x ∷ xs) = refl

    by : (vs : List Chunk) → drop 0 (option_map_or in_chunk (slice_get vs 0) []) ++ flat (drop 1 vs) ≡ flat vs
    by [] = refl
    by (v ∷ vs) = ap (λ l. l ++ flat vs) (all_of (in_chunk v))

pub got_some : {A : Type 0} (xs : List A) (i : ℕ) (r : Option (Bor A)) (x : Bor A) → (is_some r ≡ nat_lt i (length xs)) × IfSome r (λ x. x.now ≡ get_or xs i x.now) → r ≡ Some x → slice_get xs i ≡ Some x.now
got_some xs i r x h e = sym (got_at xs i r h) ∙ ap option_copied e

pub got_none : {A : Type 0} (xs : List A) (i : ℕ) (r : Option (Bor A)) → (is_some r ≡ nat_lt i (length xs)) × IfSome r (λ x. x.now ≡ get_or xs i x.now) → r ≡ None → slice_get xs i ≡ None
got_none xs i r h e = sym (got_at xs i r h) ∙ ap option_copied e

pub rest_is : (cs : Chunks) (s : Spot) (v : Chunk) (l : List Group) → slice_get cs.chunks.items s.chunk ≡ Some v → l ≡ v.items → map keyed (take (length l - s.place) (drop s.place l)) ≡ drop s.place (chunk_at cs s.chunk)
rest_is cs s v l at is =
    ap (map keyed) (take_rest l s.place ∙ ap (drop s.place) is)
    ∙ sym (drop-map keyed s.place v.items)
    ∙ ap (drop s.place) (sym (chunk_is cs s v at))

pub no_rest_is : (cs : Chunks) (s : Spot) → slice_get cs.chunks.items s.chunk ≡ None → [] ≡ drop s.place (chunk_at cs s.chunk)
no_rest_is cs s e = sym (ap (λ o. drop s.place (option_map_or in_chunk o [])) e ∙ drop_none s.place)
  where
    drop_none : {A : Type 0} (p : ℕ) → drop {A = A} p [] ≡ []
    drop_none zero = refl
    drop_none (suc p) = refl

-- a spot is in a chunk, and its place among the chunk's groups
pub place_fits : (n : Name) (cs : Chunks) (s : Spot) (a : IsAt n s cs) → s.place + 1 ≤ length (chunk_at cs s.chunk)
place_fits n cs s a =
    let short = slice_get_within a.chunk.items s.place a.group a.is in
    let len = ap (λ (l : Groups). length l) (chunk_is cs s a.chunk a.at) in
    let all = length-map a.chunk.items keyed in
    omega arith

pub place_small : (n : Name) (cs : Chunks) (s : Spot) (a : IsAt n s cs) → s.place + 1 < 2 ^ 64
place_small n cs s a =
    let short = slice_get_within a.chunk.items s.place a.group a.is in
    let len = a.chunk.ok.0 in
    let room = a.chunk.ok.1 in
    let small = a.chunk.small in
    omega arith

pub chunk_read_at : (n : Name) (cs : Chunks) (s : Spot) (a : IsAt n s cs) (v : Chunk) → v ≡ slice_index_or cs.chunks.items s.chunk v → a.chunk ≡ v
chunk_read_at n cs s a v is = sym (is ∙ get_or_from_slice_get cs.chunks.items s.chunk a.chunk v a.at)

-- ---- how many groups there are

pub one_more_group : (n : Name) (g : Group) (cs : Chunks) (s : Spot) → IsGap n s cs → length (insert_entry bytes_cmp (groups_in cs) n g) ≡ length (groups_in cs) + 1
one_more_group n g cs s gap =
    let put = ap (λ (l : Groups). length l) (put_in_gap n g cs s gap) in
    let front = length-append (before s cs) ((n, g) ∷ from_on s cs) in
    let all = ap (λ (l : Groups). length l) (gap_parts n cs s gap) in
    let parts = length-append (before s cs) (from_on s cs) in
    omega arith

one_of : (b : Bool) → b ≡ true → ◌≡◌ {A = ℕ} (cond b 1 0) 1
one_of b e = ap (λ x. cond x 1 0) e

pub groups_left : (n : Name) (gs : Groups) (b : Bool) → b ≡ is_some (lookup (is_at (bytes_cmp n)) gs) → length (remove_entry (is_at (bytes_cmp n)) gs) + cond b 1 0 ≡ length gs
groups_left n [] true e = absurd (true≢false e)
groups_left n [] false e = omega arith
groups_left n (h ∷ gs) b e =
    elim (is_at (bytes_cmp n) h.0) as (λ t. b ≡ is_some (cond t (Some h.1) (lookup (is_at (bytes_cmp n)) gs)) → length (cond t gs (h ∷ remove_entry (is_at (bytes_cmp n)) gs)) + cond b 1 0 ≡ length (h ∷ gs)) [
      | true ↦ λ s. omega (arith, one_of b s)
      | false ↦ λ s. (let rest = groups_left n gs b s in omega arith)
    ] e

none_of_it : (b : Bool) → b ≡ false → ◌≡◌ {A = ℕ} (cond b 1 0) 0
none_of_it b e = ap (λ x. cond x 1 0) e

module _ (cs new : Chunks) (n : Name) (b : Bool) (is : b ≡ is_some (lookup (is_at (bytes_cmp n)) (groups_in cs))) (taken : groups_in new ≡ remove_entry (is_at (bytes_cmp n)) (groups_in cs)) (counted : IsCounted cs) where
  same_length : length (groups_in new) ≡ length (remove_entry (is_at (bytes_cmp n)) (groups_in cs))
  same_length = ap (λ (l : Groups). length l) taken

  pub counted_less : b ≡ true → new.count ≡ cs.count - 1 → IsCounted new
  counted_less t less = record {
    all = omega (arith, same_length, groups_left n (groups_in cs) b is, one_of b t, counted.all);
    few = omega (arith, counted.few);
  }

  pub counted_same : b ≡ false → new.count ≡ cs.count → IsCounted new
  counted_same t same = record {
    all = omega (arith, same_length, groups_left n (groups_in cs) b is, none_of_it b t, counted.all);
    few = omega (arith, counted.few);
  }

-- ---- groups of a part

rest_of : {A : Type 0} (k : ℕ) (xs : List A) (x : A) → In x (drop k xs) → In x xs
rest_of k xs x i = subst (In x) (take-append-drop k xs) (in_right (take k xs) (drop k xs) x i)

pub rest_in : (cs : Chunks) (s : Spot) (gs : List Group) → map keyed gs ≡ drop s.place (chunk_at cs s.chunk) → (g : Group) → Contains gs g → In (keyed g) (groups_in cs)
rest_in cs s gs is g there = by (slice_get cs.chunks.items s.chunk) refl (rest_of s.place (chunk_at cs s.chunk) (keyed g) (subst (In (keyed g)) is (in_map keyed gs g (contains_in gs g there))))
  where
    by : (o : Option Chunk) → slice_get cs.chunks.items s.chunk ≡ o → In (keyed g) (chunk_at cs s.chunk) → In (keyed g) (groups_in cs)
    by None e i = absurd (subst (In (keyed g)) (ap (λ o. option_map_or in_chunk o []) e) i)
    by (Some v) e i = to_flat cs.chunks.items v (got_item cs.chunks.items s.chunk v e) (keyed g) (subst (In (keyed g)) (ap (λ o. option_map_or in_chunk o []) e) i)

pub in_chunks : (cs : Chunks) (k : ℕ) (vs : List Chunk) → vs ≡ drop k cs.chunks.items → (i : ℕ) (v : Chunk) → i < length vs → v ≡ slice_index_or vs i v → (g : Group) → Contains v.items g → In (keyed g) (groups_in cs)
in_chunks cs k vs is i v short here g there =
    to_flat cs.chunks.items v (rest_of k cs.chunks.items v (subst (In v) is (subst (λ x. In x vs) (sym here) (in_item vs i v short)))) (keyed g) (in_map keyed v.items g (contains_in v.items g there))

-- a group that the code reads, of a chunk that it reads
pub item_in : (cs : Chunks) (vs : List Chunk) → vs ≡ cs.chunks.items → (i : ℕ) (v : Chunk) → i < length vs → v ≡ slice_index_or vs i v → (gs : List Group) → gs ≡ v.items → (j : ℕ) (g : Group) → j < length gs → g ≡ slice_index_or gs j g → In (keyed g) (groups_in cs)
item_in cs vs is i v short here gs same j g inner there =
    to_flat cs.chunks.items v (subst (In v) is (subst (λ x. In x vs) (sym here) (in_item vs i v short))) (keyed g)
    (in_map keyed v.items g (subst (In g) same (subst (λ x. In x gs) (sym there) (in_item gs j g inner))))
