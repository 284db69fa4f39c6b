-- The open ids as the bits of the first and a list of those above.
use Rattle.std.proofs.Common.{◌≡◌, ◌≢◌, ◌⊎◌, ℕ, zero, suc, ◌+◌, ◌-◌, ◌<◌, ◌≤◌, ℤ, pos, negsuc, Bool, true, false, inl, inr, List, [], ◌∷◌, length, refl, sym, ap, subst, ◌∙◌, add-one, arith}
use Rattle.std.specs.Prelude.{cond, nat_lt, ◌||◌}
use Rattle.std.specs.declared.cmp.Ordering.{Ordering}
use Rattle.std.specs.declared.cmp.Ordering.TheVariants.{Less, Equal, Greater}
use Rattle.std.specs.BTreeMap.{is_at}
use Rattle.std.specs.List.{AllByRecursion}
use Rattle.std.specs.Ordering.{int_cmp, is_eq, is_lt, match_ordering}
use Rattle.std.proofs.lemmas.Bool.{cases_lt, false≢true}
use Rattle.std.proofs.lemmas.Bool.Decides.{nat_tests}
use Rattle.std.proofs.lemmas.Map.Lookups.{exact_signed}
use Rattle.std.proofs.lemmas.Map.Made.{length-remove_key}
use Rattle.std.proofs.lemmas.Map.Views.{tells_apart}
use Rattle.bep_session.specs.Ids.{IsCounted, bit, closed, ids_from, ids_of, is_one, is_open, is_positive, opened, with_id}

-- ---- the order of positive ids

lt_true : (a b : ℕ) → a < b → nat_lt a b ≡ true
lt_true a b lt = grind (arith, nat_tests)

lt_false : (a b : ℕ) → b ≤ a → nat_lt a b ≡ false
lt_false a b le = grind (arith, nat_tests)

lt_from : (a b : ℕ) → nat_lt a b ≡ true → a < b
lt_from a b e = grind (arith, nat_tests)

first_of_three : (x y : Bool) → cond x Less (cond y Greater Equal) ≡ Less → x ≡ true
first_of_three true y h = refl
first_of_three false true h = absurd (false≢true (ap is_lt h))
first_of_three false false h = absurd (false≢true (ap is_lt h))

pub less : (a b : ℕ) → a < b → int_cmp (pos a) (pos b) ≡ Less
less a b lt = ap (λ (x : Bool). cond x Less (cond (nat_lt b a) Greater Equal)) (lt_true a b lt)

pub greater : (a b : ℕ) → b < a → int_cmp (pos a) (pos b) ≡ Greater
greater a b lt =
    ap (λ (x : Bool). cond x Less (cond (nat_lt b a) Greater Equal)) (lt_false a b (omega arith)) ∙ ap (λ (x : Bool). cond x Greater Equal) (lt_true b a lt)

pub equal : (a : ℕ) → int_cmp (pos a) (pos a) ≡ Equal
equal a =
    ap (λ (x : Bool). cond x Less (cond (nat_lt a a) Greater Equal)) (lt_false a a (omega arith)) ∙ ap (λ (x : Bool). cond x Greater Equal) (lt_false a a (omega arith))

abbrev pub Above : ℕ → List ℤ → Type 0
Above k ids = AllByRecursion (λ y. int_cmp (pos k) y ≡ Less) ids

below_all : (a b : ℕ) (y : ℤ) → a ≤ b → int_cmp (pos b) y ≡ Less → int_cmp (pos a) y ≡ Less
below_all a b (pos n) le h = let under : b < n = lt_from b n (first_of_three (nat_lt b n) (nat_lt n b) h) in less a n (omega arith)
below_all a b (negsuc n) le h = absurd (false≢true (ap is_lt h))

pub above_lower : (a b : ℕ) (ids : List ℤ) → a ≤ b → Above b ids → Above a ids
above_lower a b [] le h = tt
above_lower a b (y ∷ ids) le h = (below_all a b y le h.0, above_lower a b ids le h.1)

with_above : (b m : ℕ) (id : ℤ) (ids : List ℤ) → int_cmp (pos m) id ≡ Less → Above m ids → Above m (with_id b id ids)
with_above zero m id ids h a = a
with_above (suc b) m id ids h a = (h, a)

from_above : (w : List ℕ) (m k n : ℕ) (ids : List ℤ) → m ≤ k → Above m ids → Above m (ids_from w k n ids)
unfolding ids_from
from_above w m k zero ids le a = a
from_above w m k (suc n) ids le a = with_above (bit w k) m (pos (suc k)) _ (less m (suc k) (omega arith)) (from_above w m (suc k) n ids (omega arith) a)

same_bits : (w v : List ℕ) (k n : ℕ) (ids : List ℤ) → ((i : ℕ) → k ≤ i → i < k + n → bit v i ≡ bit w i) → ids_from w k n ids ≡ ids_from v k n ids
unfolding ids_from
same_bits w v k zero ids h = refl
same_bits w v k (suc n) ids h =
    ap (λ (b : ℕ). with_id b (pos (suc k)) (ids_from w (suc k) n ids)) (sym (h k (omega arith) (omega arith)))
    ∙ ap (with_id (bit v k) (pos (suc k))) (same_bits w v (suc k) n ids (λ i ge lt. h i (omega arith) (omega arith)))

-- ---- one more

first : (id : ℤ) (ids : List ℤ) → AllByRecursion (λ y. int_cmp id y ≡ Less) ids → opened ids id ≡ id ∷ ids
first id [] a = refl
first id (x ∷ xs) a = ap (λ (o : Ordering). match_ordering o (id ∷ x ∷ xs) (x ∷ xs) (x ∷ opened xs id)) a.0

past : (b : ℕ) (id x : ℤ) (ids : List ℤ) → int_cmp id x ≡ Greater → opened (with_id b x ids) id ≡ with_id b x (opened ids id)
past zero id x ids h = refl
past (suc b) id x ids h = ap (λ (o : Ordering). match_ordering o (id ∷ x ∷ ids) (x ∷ ids) (x ∷ opened ids id)) h

opened_above : (w : List ℕ) (k n : ℕ) (ids : List ℤ) (id : ℤ) → ((i : ℕ) → i < k + n → int_cmp id (pos (suc i)) ≡ Greater) → opened (ids_from w k n ids) id ≡ ids_from w k n (opened ids id)
unfolding ids_from
opened_above w k zero ids id h = refl
opened_above w k (suc n) ids id h =
    past (bit w k) id (pos (suc k)) _ (h k (omega arith))
    ∙ ap (with_id (bit w k) (pos (suc k))) (opened_above w (suc k) n ids id (λ i lt. h i (omega arith)))

opened_here : (b c : ℕ) (id : ℤ) (ids : List ℤ) → b ≡ 0 → c ≡ 1 → AllByRecursion (λ y. int_cmp id y ≡ Less) ids → opened (with_id b id ids) id ≡ with_id c id ids
opened_here b c id ids off on a = ap (λ (x : ℕ). opened (with_id x id ids) id) off ∙ first id ids a ∙ ap (λ (x : ℕ). with_id x id ids) (sym on)

opened_low : (w v : List ℕ) (j k n : ℕ) (ids : List ℤ) → k ≤ j → j < k + n → bit w j ≡ 0 → bit v j ≡ 1 → ((i : ℕ) → i < k + n → i ≢ j → bit v i ≡ bit w i) → Above (suc j) ids
    → opened (ids_from w k n ids) (pos (suc j)) ≡ ids_from v k n ids
unfolding ids_from
opened_low w v j k zero ids le lt off on same a = absurd (omega arith)
opened_low w v j k (suc n) ids le lt off on same a = elim (cases_lt k j) [
  | inl h ↦
      past (bit w k) (pos (suc j)) (pos (suc k)) _ (greater (suc j) (suc k) (omega arith))
      ∙ ap (with_id (bit w k) (pos (suc k))) (opened_low w v j (suc k) n ids (omega arith) (omega arith) off on (λ i under ne. same i (omega arith) ne) a)
      ∙ ap (λ (b : ℕ). with_id b (pos (suc k)) (ids_from v (suc k) n ids)) (sym (same k (omega arith) (λ e. absurd (omega arith))))
  | inr h ↦
      let here : k ≡ j = omega arith in
      let rest = from_above w (suc k) (suc k) n ids (omega arith) (subst (λ (i : ℕ). Above (suc i) ids) (sym here) a) in
      ap (λ (i : ℕ). opened (with_id (bit w k) (pos (suc k)) (ids_from w (suc k) n ids)) (pos (suc i))) (sym here)
      ∙ opened_here (bit w k) (bit v k) (pos (suc k)) _ (ap (bit w) here ∙ off) (ap (bit v) here ∙ on) rest
      ∙ ap (with_id (bit v k) (pos (suc k))) (same_bits w v (suc k) n ids (λ i ge under. same i (omega arith) (λ e. absurd (omega arith))))
]

-- ---- whether one is open

apart_from : (id x : ℤ) (o : Ordering) → int_cmp id x ≡ o → is_eq o ≡ false → is_at (int_cmp id) x ≡ false
apart_from id x o e h = ap is_eq e ∙ h

is_past : (b : ℕ) (id x : ℤ) (ids : List ℤ) → is_at (int_cmp id) x ≡ false → is_open (with_id b x ids) id ≡ is_open ids id
is_past zero id x ids h = refl
is_past (suc b) id x ids h = ap (λ (c : Bool). c || is_open ids id) h

open_above : (w : List ℕ) (k n : ℕ) (ids : List ℤ) (id : ℤ) → ((i : ℕ) → i < k + n → is_at (int_cmp id) (pos (suc i)) ≡ false) → is_open (ids_from w k n ids) id ≡ is_open ids id
unfolding ids_from
open_above w k zero ids id h = refl
open_above w k (suc n) ids id h = is_past (bit w k) id (pos (suc k)) _ (h k (omega arith)) ∙ open_above w (suc k) n ids id (λ i lt. h i (omega arith))

none_open : (id : ℤ) (ids : List ℤ) → AllByRecursion (λ y. int_cmp id y ≡ Less) ids → is_open ids id ≡ false
none_open id [] a = refl
none_open id (x ∷ xs) a = ap (λ (o : Ordering). is_eq o || is_open xs id) a.0 ∙ none_open id xs a.1

is_here : (b : ℕ) (id : ℤ) (ids : List ℤ) → int_cmp id id ≡ Equal → AllByRecursion (λ y. int_cmp id y ≡ Less) ids → is_open (with_id b id ids) id ≡ is_one b
is_here zero id ids e a = none_open id ids a
is_here (suc b) id ids e a = ap (λ (o : Ordering). is_eq o || is_open ids id) e

open_low : (w : List ℕ) (j k n : ℕ) (ids : List ℤ) → k ≤ j → j < k + n → Above (suc j) ids → is_open (ids_from w k n ids) (pos (suc j)) ≡ is_one (bit w j)
unfolding ids_from
open_low w j k zero ids le lt a = absurd (omega arith)
open_low w j k (suc n) ids le lt a = elim (cases_lt k j) [
  | inl h ↦
      is_past (bit w k) (pos (suc j)) (pos (suc k)) _ (apart_from (pos (suc j)) (pos (suc k)) Greater (greater (suc j) (suc k) (omega arith)) refl)
      ∙ open_low w j (suc k) n ids (omega arith) (omega arith) a
  | inr h ↦
      let here : k ≡ j = omega arith in
      let rest = from_above w (suc k) (suc k) n ids (omega arith) (subst (λ (i : ℕ). Above (suc i) ids) (sym here) a) in
      ap (λ (i : ℕ). is_open (with_id (bit w k) (pos (suc k)) (ids_from w (suc k) n ids)) (pos (suc i))) (sym here)
      ∙ is_here (bit w k) (pos (suc k)) _ (equal (suc k)) rest
      ∙ ap (λ (i : ℕ). is_one (bit w i)) here
]

-- ---- without one

closed_past : (b : ℕ) (id x : ℤ) (ids : List ℤ) → is_at (int_cmp id) x ≡ false → closed (with_id b x ids) id ≡ with_id b x (closed ids id)
closed_past zero id x ids h = refl
closed_past (suc b) id x ids h = ap (λ (c : Bool). cond c ids (x ∷ closed ids id)) h

closed_above : (w : List ℕ) (k n : ℕ) (ids : List ℤ) (id : ℤ) → ((i : ℕ) → i < k + n → is_at (int_cmp id) (pos (suc i)) ≡ false) → closed (ids_from w k n ids) id ≡ ids_from w k n (closed ids id)
unfolding ids_from
closed_above w k zero ids id h = refl
closed_above w k (suc n) ids id h =
    closed_past (bit w k) id (pos (suc k)) _ (h k (omega arith))
    ∙ ap (with_id (bit w k) (pos (suc k))) (closed_above w (suc k) n ids id (λ i lt. h i (omega arith)))

pub closed_absent : (ids : List ℤ) (id : ℤ) → is_open ids id ≡ false → closed ids id ≡ ids
closed_absent [] id h = refl
closed_absent (x ∷ xs) id h = at (is_at (int_cmp id) x) (closed_absent xs id) h
  where
    at : (b : Bool) → (is_open xs id ≡ false → closed xs id ≡ xs) → (b || is_open xs id) ≡ false → cond b xs (x ∷ closed xs id) ≡ x ∷ xs
    at true later h = absurd (false≢true (sym h))
    at false later h = ap (λ (l : List ℤ). x ∷ l) (later h)

closed_here : (b c : ℕ) (id : ℤ) (ids : List ℤ) → c ≡ 0 → int_cmp id id ≡ Equal → AllByRecursion (λ y. int_cmp id y ≡ Less) ids → closed (with_id b id ids) id ≡ with_id c id ids
closed_here zero c id ids off e a = closed_absent ids id (none_open id ids a) ∙ ap (λ (x : ℕ). with_id x id ids) (sym off)
closed_here (suc b) c id ids off e a =
    ap (λ (o : Ordering). cond (is_eq o) ids (id ∷ closed ids id)) e ∙ ap (λ (x : ℕ). with_id x id ids) (sym off)

closed_low : (w v : List ℕ) (j k n : ℕ) (ids : List ℤ) → k ≤ j → j < k + n → bit v j ≡ 0 → ((i : ℕ) → i < k + n → i ≢ j → bit v i ≡ bit w i) → Above (suc j) ids
    → closed (ids_from w k n ids) (pos (suc j)) ≡ ids_from v k n ids
unfolding ids_from
closed_low w v j k zero ids le lt off same a = absurd (omega arith)
closed_low w v j k (suc n) ids le lt off same a = elim (cases_lt k j) [
  | inl h ↦
      closed_past (bit w k) (pos (suc j)) (pos (suc k)) _ (apart_from (pos (suc j)) (pos (suc k)) Greater (greater (suc j) (suc k) (omega arith)) refl)
      ∙ ap (with_id (bit w k) (pos (suc k))) (closed_low w v j (suc k) n ids (omega arith) (omega arith) off (λ i under ne. same i (omega arith) ne) a)
      ∙ ap (λ (b : ℕ). with_id b (pos (suc k)) (ids_from v (suc k) n ids)) (sym (same k (omega arith) (λ e. absurd (omega arith))))
  | inr h ↦
      let here : k ≡ j = omega arith in
      let rest = from_above w (suc k) (suc k) n ids (omega arith) (subst (λ (i : ℕ). Above (suc i) ids) (sym here) a) in
      ap (λ (i : ℕ). closed (with_id (bit w k) (pos (suc k)) (ids_from w (suc k) n ids)) (pos (suc i))) (sym here)
      ∙ closed_here (bit w k) (bit v k) (pos (suc k)) _ (ap (bit v) here ∙ off) (equal (suc k)) rest
      ∙ ap (with_id (bit v k) (pos (suc k))) (same_bits w v (suc k) n ids (λ i ge under. same i (omega arith) (λ e. absurd (omega arith))))
]

-- ---- how many

pub length-opened : (ids : List ℤ) (id : ℤ) → is_open ids id ≡ false → length (opened ids id) ≡ length ids + 1
length-opened [] id h = refl
length-opened (x ∷ xs) id h = at (int_cmp id x) (length-opened xs id) h
  where
    at : (o : Ordering) → (is_open xs id ≡ false → length (opened xs id) ≡ length xs + 1) → (is_eq o || is_open xs id) ≡ false → length (match_ordering o (id ∷ x ∷ xs) (x ∷ xs) (x ∷ opened xs id)) ≡ length (x ∷ xs) + 1
    at Less later h = omega arith
    at Equal later h = absurd (false≢true (sym h))
    at Greater later h = let l = later h in omega arith

none_from : (w : List ℕ) (k n : ℕ) → ((i : ℕ) → i < k + n → bit w i ≡ 0) → ids_from w k n [] ≡ []
unfolding ids_from
none_from w k zero h = refl
none_from w k (suc n) h = ap (λ (b : ℕ). with_id b (pos (suc k)) (ids_from w (suc k) n [])) (h k (omega arith)) ∙ none_from w (suc k) n (λ i lt. h i (omega arith))

-- ---- of the first 1,024

module _ (w : List ℕ) (above : List ℤ) (a : Above 1024 above) where
  pub low-is_open : (j : ℕ) → j < 1024 → is_open (ids_of w above) (pos (suc j)) ≡ is_one (bit w j)
  unfolding ids_of
  low-is_open j lt = open_low w j 0 1024 above (omega arith) (omega arith) (above_lower (suc j) 1024 above (omega arith) a)

  pub above-is_open : (id : ℤ) → ((i : ℕ) → i < 1024 → is_at (int_cmp id) (pos (suc i)) ≡ false) → is_open (ids_of w above) id ≡ is_open above id
  unfolding ids_of
  above-is_open id h = open_above w 0 1024 above id (λ i lt. h i (omega arith))

  pub low-opened : (v : List ℕ) (j : ℕ) → j < 1024 → bit w j ≡ 0 → bit v j ≡ 1 → ((i : ℕ) → i < 1024 → i ≢ j → bit v i ≡ bit w i) → opened (ids_of w above) (pos (suc j)) ≡ ids_of v above
  unfolding ids_of
  low-opened v j lt off on same = opened_low w v j 0 1024 above (omega arith) (omega arith) off on (λ i under ne. same i (omega arith) ne) (above_lower (suc j) 1024 above (omega arith) a)

  pub low-closed : (v : List ℕ) (j : ℕ) → j < 1024 → bit v j ≡ 0 → ((i : ℕ) → i < 1024 → i ≢ j → bit v i ≡ bit w i) → closed (ids_of w above) (pos (suc j)) ≡ ids_of v above
  unfolding ids_of
  low-closed v j lt off same = closed_low w v j 0 1024 above (omega arith) (omega arith) off (λ i under ne. same i (omega arith) ne) (above_lower (suc j) 1024 above (omega arith) a)

pub above-opened : (w : List ℕ) (above : List ℤ) (id : ℤ) → ((i : ℕ) → i < 1024 → int_cmp id (pos (suc i)) ≡ Greater) → opened (ids_of w above) id ≡ ids_of w (opened above id)
unfolding ids_of
above-opened w above id h = opened_above w 0 1024 above id (λ i lt. h i (omega arith))

pub above-closed : (w : List ℕ) (above : List ℤ) (id : ℤ) → ((i : ℕ) → i < 1024 → is_at (int_cmp id) (pos (suc i)) ≡ false) → closed (ids_of w above) id ≡ ids_of w (closed above id)
unfolding ids_of
above-closed w above id h = closed_above w 0 1024 above id (λ i lt. h i (omega arith))

pub none-ids_of : (w : List ℕ) → ((i : ℕ) → i < 1024 → bit w i ≡ 0) → ids_of w [] ≡ []
unfolding ids_of
none-ids_of w h = none_from w 0 1024 (λ i lt. h i (omega arith))

-- ---- an id that has no bit

pub other : (id : ℤ) → ((k : ℕ) → k < 1024 → id ≢ pos (k + 1)) → (i : ℕ) → i < 1024 → is_at (int_cmp id) (pos (suc i)) ≡ false
other id h i lt = at (is_at (int_cmp id) (pos (suc i))) refl
  where
    at : (b : Bool) → is_at (int_cmp id) (pos (suc i)) ≡ b → b ≡ false
    at true e = absurd (h i lt (tells_apart exact_signed id (pos (suc i)) e ∙ ap (λ (n : ℕ). pos n) (sym (add-one i))))
    at false e = refl

-- ---- what an `OpenIds` holds, and the ids that it shows

pub record Holds (low : List ℕ) (above : List ℤ) (len : ℕ) (ids : List ℤ) : Type 0 where
  pub above_all : Above 1024 above
  pub counted : len ≡ length ids
  pub shows : ids_of low above ≡ ids

pub holds : (low : List ℕ) (above : List ℤ) (len : ℕ) (ids : List ℤ) → IsCounted low above len → ids_of low above ≡ ids → Holds low above len ids
holds low above len ids i is = record { above_all = i.0; counted = i.1 ∙ ap (λ (l : List ℤ). length l) is; shows = is }

pub kept : (low : List ℕ) (above : List ℤ) (len : ℕ) (ids : List ℤ) → Holds low above len ids → IsCounted low above len
kept low above len ids h = (h.above_all, h.counted ∙ ap (λ (l : List ℤ). length l) (sym h.shows))

at_suc : (id : ℤ) (j : ℕ) → id ≡ pos (j + 1) → id ≡ pos (suc j)
at_suc id j e = e ∙ ap (λ (n : ℕ). pos n) (add-one j)

is_zero_bit : (b : ℕ) → is_one b ≡ false → b ≡ 0
is_zero_bit zero e = refl
is_zero_bit (suc b) e = absurd (false≢true (sym e))

pub no_low : (id : ℤ) → is_positive id ≡ true → ((k : ℕ) → k < 1024 → id ≢ pos (k + 1)) → (k : ℕ) → k ≤ 1024 → id ≢ pos k
no_low id p none zero le e = absurd (false≢true (ap is_positive (sym e) ∙ p))
no_low id p none (suc n) le e = none n (omega arith) (e ∙ ap (λ (i : ℕ). pos i) (sym (add-one n)))

greater_all : (id : ℤ) → is_positive id ≡ true → ((k : ℕ) → k < 1024 → id ≢ pos (k + 1)) → (n : ℕ) × (id ≡ pos n) × (1024 < n)
greater_all (pos n) p none = (n, refl, at (cases_lt n 1025))
  where
    at : (n < 1025) ⊎ (1025 ≤ n) → 1024 < n
    at (inl h) = absurd (no_low (pos n) p none n (omega arith) refl)
    at (inr h) = omega arith
greater_all (negsuc n) p none = absurd (false≢true p)

opened_all : (m : ℕ) (id : ℤ) (ids : List ℤ) → int_cmp (pos m) id ≡ Less → Above m ids → Above m (opened ids id)
opened_all m id [] h a = (h, tt)
opened_all m id (x ∷ xs) h a = at (int_cmp id x) (opened_all m id xs h a.1)
  where
    at : (o : Ordering) → Above m (opened xs id) → Above m (match_ordering o (id ∷ x ∷ xs) (x ∷ xs) (x ∷ opened xs id))
    at Less later = (h, a)
    at Equal later = a
    at Greater later = (a.0, later)

closed_all : (m : ℕ) (id : ℤ) (ids : List ℤ) → Above m ids → Above m (closed ids id)
closed_all m id [] a = tt
closed_all m id (x ∷ xs) a = at (is_at (int_cmp id) x) (closed_all m id xs a.1)
  where
    at : (b : Bool) → Above m (closed xs id) → Above m (cond b xs (x ∷ closed xs id))
    at true later = a.1
    at false later = (a.0, later)

module _ (low : List ℕ) (above : List ℤ) (len : ℕ) (ids : List ℤ) (h : Holds low above len ids) where
  pub bit_tells : (k : ℕ) → k < 1024 → is_open ids (pos (k + 1)) ≡ is_one (bit low k)
  bit_tells k lt =
      ap (λ (n : ℕ). is_open ids (pos n)) (add-one k)
      ∙ ap (λ (l : List ℤ). is_open l (pos (suc k))) (sym h.shows)
      ∙ low-is_open low above h.above_all k lt

  pub set_tells : (id : ℤ) → ((k : ℕ) → k < 1024 → id ≢ pos (k + 1)) → is_open ids id ≡ is_open above id
  set_tells id none = ap (λ (l : List ℤ). is_open l id) (sym h.shows) ∙ above-is_open low above h.above_all id (other id none)

  more : (id : ℤ) → is_open ids id ≡ false → len + 1 ≡ length (opened ids id)
  more id free = let l = length-opened ids id free in let k = h.counted in omega arith

  pub put_low : (v : List ℕ) (j : ℕ) (id : ℤ) → j < 1024 → id ≡ pos (j + 1) → is_open ids id ≡ false → bit v j ≡ 1 → ((i : ℕ) → i < 1024 → i ≢ j → bit v i ≡ bit low i)
      → Holds v above (len + 1) (opened ids id)
  put_low v j id lt e free on same =
      let off : bit low j ≡ 0 = is_zero_bit (bit low j) (sym (bit_tells j lt) ∙ ap (is_open ids) (sym e) ∙ free) in record {
        above_all = h.above_all;
        counted = more id free;
        shows = sym (ap (opened ids) (at_suc id j e) ∙ ap (λ (l : List ℤ). opened l (pos (suc j))) (sym h.shows) ∙ low-opened low above h.above_all v j lt off on same);
      }

  pub put_above : (id : ℤ) → is_positive id ≡ true → ((k : ℕ) → k < 1024 → id ≢ pos (k + 1)) → is_open ids id ≡ false → Holds low (opened above id) (len + 1) (opened ids id)
  put_above id p none free = let g = greater_all id p none in record {
    above_all = opened_all 1024 id above (ap (int_cmp (pos 1024)) g.1 ∙ less 1024 g.0 g.2) h.above_all;
    counted = more id free;
    shows = sym (ap (λ (l : List ℤ). opened l id) (sym h.shows) ∙ above-opened low above id (λ i lt. ap (λ (x : ℤ). int_cmp x (pos (suc i))) g.1 ∙ greater g.0 (suc i) (let b = g.2 in omega arith)));
  }

  pub drop_low : (v : List ℕ) (j : ℕ) (id : ℤ) → j < 1024 → id ≡ pos (j + 1) → bit v j ≡ 0 → ((i : ℕ) → i < 1024 → i ≢ j → bit v i ≡ bit low i)
      → (is_one (bit low j) ≡ is_open ids id) × Above 1024 above × (ids_of v above ≡ closed ids id)
  drop_low v j id lt e off same = (
    sym (bit_tells j lt) ∙ ap (is_open ids) (sym e),
    h.above_all,
    sym (ap (closed ids) (at_suc id j e) ∙ ap (λ (l : List ℤ). closed l (pos (suc j))) (sym h.shows) ∙ low-closed low above h.above_all v j lt off same),
  )

  pub drop_above : (id : ℤ) → ((k : ℕ) → k < 1024 → id ≢ pos (k + 1)) → (is_open above id ≡ is_open ids id) × Above 1024 (closed above id) × (ids_of low (closed above id) ≡ closed ids id)
  drop_above id none = (
    sym (set_tells id none),
    closed_all 1024 id above h.above_all,
    sym (ap (λ (l : List ℤ). closed l id) (sym h.shows) ∙ above-closed low above id (other id none)),
  )

-- what is left where an id was freed, or was not open
pub freed : (v : List ℕ) (above ids : List ℤ) (len : ℕ) (id : ℤ) → len ≡ length ids → is_open ids id ≡ true → Above 1024 above → ids_of v above ≡ closed ids id → (1 ≤ len) × Holds v above (len - 1) (closed ids id)
freed v above ids len id counted is a shows =
    let l = length-remove_key (is_at (int_cmp id)) ids is in (omega arith, record { above_all = a; counted = omega arith; shows = shows })

pub not_freed : (v : List ℕ) (above ids : List ℤ) (len : ℕ) (id : ℤ) → len ≡ length ids → is_open ids id ≡ false → Above 1024 above → ids_of v above ≡ closed ids id → Holds v above len (closed ids id)
not_freed v above ids len id counted is a shows = record { above_all = a; counted = counted ∙ ap (λ (l : List ℤ). length l) (sym (closed_absent ids id is)); shows = shows }
