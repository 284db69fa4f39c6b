-- Where blocks are, as they are added and taken away.
use Rattle.std.proofs.Common.{◌≡◌, ◌≢◌, ℕ, zero, suc, ◌+◌, ◌-◌, ◌^◌, ◌<◌, ◌≤◌, Bool, true, false, List, [], ◌∷◌, ◌++◌, length, take, get_or, map, refl, sym, ap, subst, ◌∙◌, inl, inr, arith}
use Rattle.std.specs.Prelude.{◌&&◌, ◌||◌, not, cond, Some, slice_get}
use Rattle.std.specs.BTreeMap.{is_at}
use Rattle.std.specs.BTreeMap.Range.{IsInRange, range_contains}
use Rattle.std.specs.Cmp.{Equal-is, IsTotalOrder, eq_by_cmp_equiv, nat_cmp_total, on_total, ranks, then_total, tied_itself}
use Rattle.std.specs.FinSet.{IsAntisymmetric, contains, contains-difference, contains-from_list, contains-insert, contains-remove, contains-union, difference, from_list, from_list_push, insert, remove, same_set, union}
use Rattle.std.specs.List.{All, enumerate_from, filter, list_any}
use Rattle.std.specs.List.Sorted.{IsStrictlySortedBy}
use Rattle.std.specs.Ordering.{MatchOrdering, eq_by_cmp, is_eq, is_gt, nat_cmp, ordering_reverse, ordering_then}
use Rattle.std.specs.declared.cmp.Ordering.{Ordering}
use Rattle.std.specs.declared.cmp.Ordering.TheVariants.{Less, Equal, Greater}
use Rattle.std.specs.declared.ops.Bound.TheVariants.{Included}
use Rattle.std.proofs.Math.Bool.{and-true, or-false}
use Rattle.std.proofs.lemmas.Bool.{false_from_ne_true, true≢false}
use Rattle.std.proofs.lemmas.List.{length-take, map-append, take_more}
use Rattle.std.proofs.lemmas.List.Elements.{All-contains}
use Rattle.std.proofs.lemmas.List.Kept.{IsStrictlySortedBy-filter}
use Rattle.std.proofs.lemmas.Map.Lookups.{exact_unsigned}
use Rattle.std.proofs.lemmas.Map.Views.{IsInRange-from_range_contains, range_contains-from_IsInRange}
use Rattle.std.proofs.lemmas.Option.{none-some}
use Rattle.sync_blocks.specs.declared.block.Block.{Block}
use Rattle.folder_core.proofs.ListTests.{In, any_in, contains_in, in_any, in_contains, in_filter, of_filter}
use Rattle.folder_index.specs.Digests.{AreCandidates, HasNone, FitsIn64Bits, Places, Spot, spot_cmp, spots, start_of, with_blocks, without_blocks}

-- ---- the order of the entries

then_equal : (a b : Ordering) → ordering_then a b ≡ Equal → (a ≡ Equal) × (b ≡ Equal)
then_equal Less b e = absurd (let f : Less ≡ Equal = e in cc)
then_equal Equal b e = (refl, e)
then_equal Greater b e = absurd (let f : Greater ≡ Equal = e in cc)

pub spots_total : IsTotalOrder spot_cmp
spots_total =
    then_total (then_total (on_total (λ (s : Spot). s.0) nat_cmp_total) (on_total (λ (s : Spot). s.1) nat_cmp_total))
    (on_total (λ (s : Spot). s.2) nat_cmp_total)

pub spots_exact : IsAntisymmetric spot_cmp
spots_exact x y e =
    let last = then_equal (ordering_then (nat_cmp x.0 y.0) (nat_cmp x.1 y.1)) (nat_cmp x.2 y.2) e in
    let first = then_equal (nat_cmp x.0 y.0) (nat_cmp x.1 y.1) last.0 in
    λ i. (exact_unsigned x.0 y.0 first.0 i, exact_unsigned x.1 y.1 first.1 i, exact_unsigned x.2 y.2 last.1 i)

abbrev pub is_one_of : Spot → List Spot → Bool
is_one_of q ks = list_any (eq_by_cmp spot_cmp q) ks

pub one_of : (q : Spot) (ks : List Spot) → is_one_of q ks ≡ true → In q ks
one_of q ks t = let x = any_in (eq_by_cmp spot_cmp q) ks t in subst (λ s. In s ks) (sym (spots_exact q x.0 ((Equal-is (spot_cmp q x.0)).0 x.2))) x.1

pub is_one : (q : Spot) (ks : List Spot) → In q ks → is_one_of q ks ≡ true
is_one q ks i = in_any (eq_by_cmp spot_cmp q) ks q i (ap is_eq (tied_itself spots_total q))

-- ---- the entries of an owner's blocks

abbrev spots_from : ℕ → ℕ → List Block → List Spot
spots_from owner n bs = map (λ p. (start_of p.1.hash, owner, p.0)) (enumerate_from n bs)

spot_from : (owner n : ℕ) (bs : List Block) (q : Spot) → In q (spots_from owner n bs) → (k : ℕ) × (b : Block) × (q ≡ (start_of b.hash, owner, n + k)) × (slice_get bs k ≡ Some b)
spot_from owner n [] q i = absurd i
spot_from owner n (x ∷ bs) q (inl s) = (0, x, s ∙ (let e : n ≡ n + 0 = omega arith in λ j. (start_of x.hash, owner, e j)), refl)
spot_from owner n (x ∷ bs) q (inr i) =
    let f = spot_from owner (n + 1) bs q i in
    (suc f.0, f.1, f.2 ∙ (let e : n + 1 + f.0 ≡ n + suc f.0 = omega arith in λ j. (start_of f.1.hash, owner, e j)), f.3)

from_spots : (owner n : ℕ) (bs : List Block) (k : ℕ) (b : Block) → slice_get bs k ≡ Some b → In (start_of b.hash, owner, n + k) (spots_from owner n bs)
from_spots owner n [] k b e = absurd (none-some b e)
from_spots owner n (x ∷ bs) zero b e = inl (let s : Some x ≡ Some b = e in let same : x ≡ b = cc in let here : n + 0 ≡ n = omega arith in λ j. (start_of (sym same j).hash, owner, here j))
from_spots owner n (x ∷ bs) (suc k) b e =
    inr (let next : n + 1 + k ≡ n + suc k = omega arith in subst (λ m. In (start_of b.hash, owner, m) (spots_from owner (n + 1) bs)) next (from_spots owner (n + 1) bs k b e))

-- each is of one of the blocks
pub of_block : (owner : ℕ) (bs : List Block) (q : Spot) → is_one_of q (spots owner bs) ≡ true → (b : Block) × (slice_get bs q.2 ≡ Some b) × (q ≡ (start_of b.hash, owner, q.2))
of_block owner bs q t =
    let f = spot_from owner 0 bs q (one_of q (spots owner bs) t) in
    let at : q.2 ≡ f.0 = (let e : q.2 ≡ 0 + f.0 = ap (λ (s : Spot). s.2) f.2 in omega arith) in
    (f.1, ap (slice_get bs) at ∙ f.3, f.2 ∙ (let e : 0 + f.0 ≡ q.2 = omega arith in λ j. (start_of f.1.hash, owner, e j)))

-- and each of the blocks has one
pub is_block : (owner : ℕ) (bs : List Block) (k : ℕ) (b : Block) → slice_get bs k ≡ Some b → is_one_of (start_of b.hash, owner, k) (spots owner bs) ≡ true
is_block owner bs k b e =
    is_one (start_of b.hash, owner, k) (spots owner bs)
    (let here : 0 + k ≡ k = omega arith in subst (λ m. In (start_of b.hash, owner, m) (spots owner bs)) here (from_spots owner 0 bs k b e))

module _ (owner : ℕ) (bs : List Block) (m : Places) (q : Spot) where
  pub contains-with : contains (with_blocks owner bs m) q ≡ (contains m q || is_one_of q (spots owner bs))
  contains-with = contains-union spots_total m (from_list (spots owner bs)) q ∙ ap (λ b. contains m q || b) (contains-from_list spots_total (spots owner bs) q)

  pub contains-without : contains (without_blocks owner bs m) q ≡ (contains m q && not (is_one_of q (spots owner bs)))
  contains-without = contains-difference spots_total m (from_list (spots owner bs)) q ∙ ap (λ b. contains m q && not b) (contains-from_list spots_total (spots owner bs) q)

-- ---- blocks that are added and taken away again leave what was there

gone : (a h : Bool) → (h ≡ true → a ≡ false) → ((a || h) && not h) ≡ a
gone true true f = sym (f refl)
gone true false f = refl
gone false true f = refl
gone false false f = refl

pub undone : (owner : ℕ) (bs : List Block) (m : Places) → HasNone owner m → without_blocks owner bs (with_blocks owner bs m) ≡ m
undone owner bs m none = same_set spots_total spots_exact (without_blocks owner bs (with_blocks owner bs m)) m (λ q.
    contains-without owner bs (with_blocks owner bs m) q
    ∙ ap (λ a. a && not (is_one_of q (spots owner bs))) (contains-with owner bs m q)
    ∙ gone (contains m q) (is_one_of q (spots owner bs)) (λ t. let f = of_block owner bs q t in ap (contains m) f.2 ∙ none (start_of f.0.hash) q.2))

-- blocks of two owners are put and taken away in any order
either_order : (a g h : Bool) → (h ≡ true → g ≡ false) → ((a && not g) || h) ≡ ((a || h) && not g)
either_order true true true f = f refl
either_order true true false f = refl
either_order true false true f = refl
either_order true false false f = refl
either_order false true true f = f refl
either_order false true false f = refl
either_order false false true f = refl
either_order false false false f = refl

pub not_of_other : (o n : ℕ) (bs : List Block) (q : Spot) → q.1 ≡ o → o ≢ n → is_one_of q (spots n bs) ≡ false
not_of_other o n bs q own unlike = false_from_ne_true (is_one_of q (spots n bs)) (λ t. unlike (sym own ∙ ap (λ (s : Spot). s.1) (of_block n bs q t).2))

pub in_any_order : (o n : ℕ) (bs cs : List Block) (m : Places) → o ≢ n → with_blocks o bs (without_blocks n cs m) ≡ without_blocks n cs (with_blocks o bs m)
in_any_order o n bs cs m unlike = same_set spots_total spots_exact (with_blocks o bs (without_blocks n cs m)) (without_blocks n cs (with_blocks o bs m)) (λ q.
    contains-with o bs (without_blocks n cs m) q
    ∙ ap (λ a. a || is_one_of q (spots o bs)) (contains-without n cs m q)
    ∙ either_order (contains m q) (is_one_of q (spots n cs)) (is_one_of q (spots o bs)) (λ t. not_of_other o n cs q (ap (λ (s : Spot). s.1) (of_block o bs q t).2) unlike)
    ∙ ap (λ a. a && not (is_one_of q (spots n cs))) (sym (contains-with o bs m q))
    ∙ sym (contains-without n cs (with_blocks o bs m) q))

-- ---- one block more, from none on

pub with_none : (owner : ℕ) (m : Places) → with_blocks owner [] m ≡ m
with_none owner m = same_set spots_total spots_exact (with_blocks owner [] m) m (λ q. contains-with owner [] m q ∙ or-false (contains m q))

pub without_none : (owner : ℕ) (m : Places) → without_blocks owner [] m ≡ m
without_none owner m = same_set spots_total spots_exact (without_blocks owner [] m) m (λ q. contains-without owner [] m q ∙ and-true (contains m q))

enumerated : (n : ℕ) (xs : List Block) (b : Block) → enumerate_from n (xs ++ b ∷ []) ≡ enumerate_from n xs ++ (n + length xs, b) ∷ []
enumerated n [] b = let e : n ≡ n + 0 = omega arith in λ i. (e i, b) ∷ []
enumerated n (x ∷ xs) b = ap (λ l. (n, x) ∷ l) (enumerated (n + 1) xs b ∙ (let e : n + 1 + length xs ≡ n + length (x ∷ xs) = omega arith in λ i. enumerate_from (n + 1) xs ++ (e i, b) ∷ []))

own_item : (xs : List Block) (i : ℕ) (d : Block) → i < length xs → get_or xs i d ≡ get_or xs i (get_or xs i d)
own_item [] i d short = absurd (omega arith)
own_item (x ∷ xs) zero d short = refl
own_item (x ∷ xs) (suc i) d short = own_item xs i d (omega arith)

-- a block as the code reads it
abbrev no_block : Block
no_block = record { offset = 0; size = 0; hash = [] }

abbrev pub block_at : List Block → ℕ → Block
block_at bs i = get_or bs i no_block

more_spots : (owner : ℕ) (bs : List Block) (i : ℕ) → i < length bs → spots owner (take (i + 1) bs) ≡ spots owner (take i bs) ++ (start_of (block_at bs i).hash, owner, i) ∷ []
more_spots owner bs i short =
    let b = block_at bs i in
    let spot : ℕ × Block → Spot = λ p. (start_of p.1.hash, owner, p.0) in
    ap (spots owner) (take_more bs i b short ∙ ap (λ x. take i bs ++ x ∷ []) (sym (own_item bs i no_block short)))
    ∙ ap (map spot) (enumerated 0 (take i bs) b)
    ∙ map-append spot (enumerate_from 0 (take i bs)) ((0 + length (take i bs), b) ∷ [])
    ∙ (let e : 0 + length (take i bs) ≡ i = omega (arith, length-take i bs) in λ j. spots owner (take i bs) ++ (start_of b.hash, owner, e j) ∷ [])

or_swap : (a b c : Bool) → (a || (b || c)) ≡ (b || (a || c))
or_swap true true c = refl
or_swap true false c = refl
or_swap false b c = refl

and_swap : (a e s : Bool) → (a && not (e || s)) ≡ (not e && (a && not s))
and_swap true true s = refl
and_swap true false s = refl
and_swap false true s = refl
and_swap false false s = refl

module _ (m s : Places) (k : Spot) where
  one_more : union m (insert s k) ≡ insert (union m s) k
  one_more = same_set spots_total spots_exact (union m (insert s k)) (insert (union m s) k) (λ q.
      contains-union spots_total m (insert s k) q
      ∙ ap (λ b. contains m q || b) (contains-insert spots_total s k q)
      ∙ or_swap (contains m q) (eq_by_cmp spot_cmp q k) (contains s q)
      ∙ ap (λ b. eq_by_cmp spot_cmp q k || b) (sym (contains-union spots_total m s q))
      ∙ sym (contains-insert spots_total (union m s) k q))

  one_less : difference m (insert s k) ≡ remove (difference m s) k
  one_less = same_set spots_total spots_exact (difference m (insert s k)) (remove (difference m s) k) (λ q.
      contains-difference spots_total m (insert s k) q
      ∙ ap (λ b. contains m q && not b) (contains-insert spots_total s k q)
      ∙ and_swap (contains m q) (eq_by_cmp spot_cmp q k) (contains s q)
      ∙ ap (λ b. not (eq_by_cmp spot_cmp q k) && b) (sym (contains-difference spots_total m s q))
      ∙ sym (contains-remove spots_total (difference m s) k q))

module _ (owner : ℕ) (bs : List Block) (i : ℕ) (m : Places) (short : i < length bs) where
  abbrev next : Spot
  next = (start_of (block_at bs i).hash, owner, i)

  next_spots : from_list {R = spot_cmp} (spots owner (take (i + 1) bs)) ≡ insert (from_list (spots owner (take i bs))) next
  next_spots = ap (λ (ks : List Spot). from_list {R = spot_cmp} ks) (more_spots owner bs i short) ∙ from_list_push spots_total spots_exact (spots owner (take i bs)) next

  pub with_next : with_blocks owner (take (i + 1) bs) m ≡ insert (with_blocks owner (take i bs) m) next
  with_next = ap (union m) next_spots ∙ one_more m (from_list (spots owner (take i bs))) next

  pub without_next : without_blocks owner (take (i + 1) bs) m ≡ remove (without_blocks owner (take i bs) m) next
  without_next = ap (difference m) next_spots ∙ one_less m (from_list (spots owner (take i bs))) next

-- ---- the entries of a set in order

or_cond : (b x : Bool) → cond b true x ≡ (b || x)
or_cond true x = refl
or_cond false x = refl

and_cond : (b x : Bool) → cond b false x ≡ (not b && x)
and_cond true x = refl
and_cond false x = refl

module _ (old new : List Spot) (k : Spot) where
  flips : (q : Spot) → eq_by_cmp spot_cmp k q ≡ eq_by_cmp spot_cmp q k
  flips q = (eq_by_cmp_equiv spots_total).symm k q

  pub inserted : ((q : Spot) → is_one_of q new ≡ cond (is_at (spot_cmp k) q) true (is_one_of q old)) → from_list {R = spot_cmp} new ≡ insert (from_list old) k
  inserted at = same_set spots_total spots_exact (from_list new) (insert (from_list old) k) (λ q.
      contains-from_list spots_total new q
      ∙ at q
      ∙ or_cond (eq_by_cmp spot_cmp k q) (is_one_of q old)
      ∙ (λ i. flips q i || sym (contains-from_list spots_total old q) i)
      ∙ sym (contains-insert spots_total (from_list old) k q))

  pub removed : ((q : Spot) → is_one_of q new ≡ cond (is_at (spot_cmp k) q) false (is_one_of q old)) → from_list {R = spot_cmp} new ≡ remove (from_list old) k
  removed at = same_set spots_total spots_exact (from_list new) (remove (from_list old) k) (λ q.
      contains-from_list spots_total new q
      ∙ at q
      ∙ and_cond (eq_by_cmp spot_cmp k q) (is_one_of q old)
      ∙ (λ i. not (flips q i) && sym (contains-from_list spots_total old q) i)
      ∙ sym (contains-remove spots_total (from_list old) k q))

-- ---- those of a start

no_greater : (a b : Ordering) → is_gt a ≡ false → is_gt b ≡ false → is_gt (ordering_then a b) ≡ false
no_greater Less b p q = refl
no_greater Equal b p q = q
no_greater Greater b p q = p

not_greater : (a b : ℕ) → a ≤ b → is_gt (nat_cmp a b) ≡ false
not_greater a b le = elim (nat_cmp a b) as (λ r. nat_cmp a b ≡ r → is_gt r ≡ false) [
  | Less ↦ λ e. refl
  | Equal ↦ λ e. refl
  | Greater ↦ λ e. absurd (let less : b < a = subst (λ r. MatchOrdering r (a < b) (a ≡ b) (b < a)) e (ranks a b) in omega arith)
] refl

abbrev first_of : ℕ → Spot
first_of start = (start, 0, 0)

abbrev last_of : ℕ → Spot
last_of start = (start, 2 ^ 64 - 1, 2 ^ 64 - 1)

of_start : (start : ℕ) (s : Spot) → is_gt (spot_cmp (first_of start) s) ≡ false → is_gt (spot_cmp s (last_of start)) ≡ false → s.0 ≡ start
of_start start s low high = sym (exact_unsigned start s.0 (elim (nat_cmp start s.0) as (λ r. nat_cmp start s.0 ≡ r → is_gt (ordering_then (ordering_then r (nat_cmp 0 s.1)) (nat_cmp 0 s.2)) ≡ false → r ≡ Equal) [
  | Less ↦ λ e l. absurd (true≢false (sym (ap (λ r. is_gt (ordering_then (ordering_then r (nat_cmp s.1 (2 ^ 64 - 1))) (nat_cmp s.2 (2 ^ 64 - 1)))) (nat_cmp_total.antisymm s.0 start ∙ ap ordering_reverse e)) ∙ high))
  | Equal ↦ λ e l. refl
  | Greater ↦ λ e l. absurd (true≢false l)
] refl low))

in_start : (start : ℕ) (s : Spot) → FitsIn64Bits s → s.0 ≡ start → IsInRange spot_cmp (Included (first_of start)) (Included (last_of start)) s
in_start start s fits same = (
  no_greater (ordering_then (nat_cmp start s.0) (nat_cmp 0 s.1)) (nat_cmp 0 s.2) (no_greater (nat_cmp start s.0) (nat_cmp 0 s.1) (not_greater start s.0 (omega (arith, same))) (not_greater 0 s.1 (omega arith))) (not_greater 0 s.2 (omega arith)),
  no_greater (ordering_then (nat_cmp s.0 start) (nat_cmp s.1 (2 ^ 64 - 1))) (nat_cmp s.2 (2 ^ 64 - 1)) (no_greater (nat_cmp s.0 start) (nat_cmp s.1 (2 ^ 64 - 1)) (not_greater s.0 start (omega (arith, same))) (not_greater s.1 (2 ^ 64 - 1) (omega (arith, fits.0)))) (not_greater s.2 (2 ^ 64 - 1) (omega (arith, fits.1))),
)

module _ (ks : List Spot) (sorted : IsStrictlySortedBy spot_cmp ks) (fit : All FitsIn64Bits ks) (start : ℕ) where
  abbrev is_inside : Spot → Bool
  is_inside s = range_contains spot_cmp (Included (first_of start)) (Included (last_of start)) s

  pub candidates_are : AreCandidates start (from_list ks) (filter is_inside ks)
  candidates_are = record {
    rises = IsStrictlySortedBy-filter spot_cmp is_inside ks sorted;
    are = λ s. (
      λ c.
          let i = of_filter is_inside ks s (contains_in (filter is_inside ks) s c) in
          let inside = IsInRange-from_range_contains spots_total (Included (first_of start)) (Included (last_of start)) s i.1 in
          (of_start start s inside.0 inside.1, contains-from_list spots_total ks s ∙ is_one s ks i.0),
      λ h.
          let i = one_of s ks (sym (contains-from_list spots_total ks s) ∙ h.1) in
          in_contains (filter is_inside ks) s
          (in_filter is_inside ks s i (range_contains-from_IsInRange spots_total (Included (first_of start)) (Included (last_of start)) s (in_start start s (All-contains FitsIn64Bits ks s fit (in_contains ks s i)) h.0))),
    );
  }
