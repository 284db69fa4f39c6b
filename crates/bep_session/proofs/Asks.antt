-- The least id that isn't open, by the bits of the first ids.
use Rattle.std.proofs.Common.{◌≡◌, ◌≢◌, ℕ, zero, suc, ◌+◌, ◌<◌, ◌≤◌, ℤ, pos, negsuc, Bool, true, false, List, [], ◌∷◌, length, refl, sym, ap, subst, ◌∙◌, add-one, arith}
use Rattle.std.specs.Prelude.{◌||◌, ◌&&◌, nat_lt, not}
use Rattle.std.specs.Int.Signed.{lt_z}
use Rattle.std.specs.List.{AllByRecursion, IsDistinct}
use Rattle.std.specs.Ordering.{eq_by_cmp, int_cmp}
use Rattle.std.specs.Set.{is_member}
use Rattle.std.proofs.lemmas.Bool.{false≢true}
use Rattle.std.proofs.lemmas.Bool.Decides.{nat_tests}
use Rattle.std.proofs.lemmas.Cmp.{eq_by_cmp_equiv, int_cmp_total}
use Rattle.std.proofs.lemmas.Map.Keys.{IsDistinct-cons}
use Rattle.std.proofs.lemmas.Map.Lookups.{exact_signed}
use Rattle.std.proofs.lemmas.Map.Made.{length-le_from_is_member}
use Rattle.std.proofs.lemmas.Map.Views.{tells_apart}
use Rattle.bep_session.specs.Ids.{can_book, IsLeastFree, bit, is_one, is_open, is_positive, max_asks}

abbrev same : ℤ → ℤ → Bool
same = eq_by_cmp int_cmp

abbrev pub Shows : List ℤ → List ℕ → Type 0
Shows ids words = (k : ℕ) → k < 1024 → is_open ids (pos (k + 1)) ≡ is_one (bit words k)

open_at : (ids : List ℤ) (words : List ℕ) (k : ℕ) → Shows ids words → k < 1024 → bit words k ≡ 1 → is_open ids (pos (k + 1)) ≡ true
open_at ids words k shows lt e = shows k lt ∙ ap is_one e

pub least : (ids : List ℤ) (words : List ℕ) (k : ℕ) → Shows ids words → k < 1024 → bit words k ≡ 0 → ((j : ℕ) → j < k → bit words j ≡ 1) → IsLeastFree ids (pos (k + 1))
least ids words k shows lt e before = (
  omega arith,
  shows k lt ∙ ap is_one e,
  λ n positive under. below n positive under,
)
  where
    below : (n : ℕ) → 0 < n → n < k + 1 → is_open ids (pos n) ≡ true
    below zero positive under = absurd (omega arith)
    below (suc n) positive under = ap (λ (i : ℕ). is_open ids (pos i)) (sym (add-one n)) ∙ open_at ids words n shows (omega arith) (before n (omega arith))

-- ---- n ids are open where the first n are

first_ids : ℕ → List ℤ
first_ids zero = []
first_ids (suc n) = pos (suc n) ∷ first_ids n

length-first_ids : (n : ℕ) → length (first_ids n) ≡ n
unfolding first_ids
length-first_ids zero = refl
length-first_ids (suc n) = ap suc (length-first_ids n)

differ : (m n : ℕ) (b : Bool) → same (pos (suc m)) (pos (suc n)) ≡ b → m ≢ n → b ≡ false
differ m n true e ne = absurd (ne (inside (tells_apart exact_signed (pos (suc m)) (pos (suc n)) e)))
  where
    inside : pos (suc m) ≡ pos (suc n) → m ≡ n
    inside h = cc
differ m n false e ne = refl

above : (m n : ℕ) → n ≤ m → AllByRecursion (λ y. same (pos (suc m)) y ≡ false) (first_ids n)
unfolding first_ids
above m zero le = tt
above m (suc n) le = (differ m n _ refl (λ e. absurd (omega arith)), above m n (omega arith))

distinct : (n : ℕ) → IsDistinct same (first_ids n)
unfolding first_ids IsDistinct
distinct zero = tt
distinct (suc n) = IsDistinct-cons same (pos (suc n)) (first_ids n) (above n n (omega arith)) (distinct n)

among : (ids : List ℤ) (n : ℕ) → ((k : ℕ) → k < n → is_open ids (pos (k + 1)) ≡ true) → (q : ℤ) → is_member same (first_ids n) q ≡ true → is_open ids q ≡ true
unfolding first_ids
among ids zero known q e = absurd (false≢true e)
among ids (suc n) known q e = here (same q (pos (suc n))) refl (among ids n (λ k lt. known k (omega arith)) q) e
  where
    here : (b : Bool) → same q (pos (suc n)) ≡ b → (is_member same (first_ids n) q ≡ true → is_open ids q ≡ true) → (b || is_member same (first_ids n) q) ≡ true → is_open ids q ≡ true
    here true is later e = ap (is_open ids) (tells_apart exact_signed q (pos (suc n)) is ∙ ap (λ (i : ℕ). pos i) (sym (add-one n))) ∙ known n (omega arith)
    here false is later e = later e

pub many_open : (ids : List ℤ) (n : ℕ) → ((k : ℕ) → k < n → is_open ids (pos (k + 1)) ≡ true) → n ≤ length ids
many_open ids n known =
    subst (λ (m : ℕ). m ≤ length ids) (length-first_ids n) (length-le_from_is_member (eq_by_cmp_equiv int_cmp_total) (first_ids n) ids (distinct n) (among ids n known))

pub all_open : (ids : List ℤ) (words : List ℕ) → Shows ids words → ((k : ℕ) → k < 1024 → bit words k ≡ 1) → max_asks ≤ length ids
all_open ids words shows ones = many_open ids 1024 (λ k lt. open_at ids words k shows lt (ones k lt))

pub least_is_free : (ids : List ℤ) (id : ℤ) → IsLeastFree ids id → is_open ids id ≡ false
least_is_free ids (pos n) h = h.1
least_is_free ids (negsuc n) h = absurd h

pub bookable : (ids : List ℤ) (id : ℤ) → lt_z id (pos 1) ≡ false → length ids < max_asks → is_open ids id ≡ false → can_book ids id ≡ true
bookable ids (pos zero) low room free = absurd (false≢true (sym low))
bookable ids (negsuc n) low room free = absurd (false≢true (sym low))
bookable ids (pos (suc n)) low room free = ap (λ (b : Bool). (true && not b) && nat_lt (length ids) max_asks) free ∙ below (length ids) max_asks room
  where
    below : (a b : ℕ) → a < b → nat_lt a b ≡ true
    below a b lt = grind (arith, nat_tests)

pub positive : (id : ℤ) → lt_z id (pos 1) ≡ false → is_positive id ≡ true
positive (pos zero) low = absurd (false≢true (sym low))
positive (pos (suc n)) low = refl
positive (negsuc n) low = absurd (false≢true (sym low))
