-- The ids that are open after one was opened or freed.
use Rattle.std.proofs.Common.{◌≡◌, ℤ, Bool, true, false, List, [], ◌∷◌, refl, sym, ap, ◌∙◌}
use Rattle.std.specs.Prelude.{cond, not, ◌||◌, ◌&&◌}
use Rattle.std.specs.declared.cmp.Ordering.{Ordering}
use Rattle.std.specs.declared.cmp.Ordering.TheVariants.{Less, Equal, Greater}
use Rattle.std.specs.List.{AllByRecursion, IsDistinct}
use Rattle.std.specs.Ordering.{eq_by_cmp, int_cmp, match_ordering}
use Rattle.std.proofs.lemmas.Map.Keys.{IsDistinct-head, IsDistinct-tail}
use Rattle.std.proofs.lemmas.Map.Lookups.{exact_signed}
use Rattle.std.proofs.lemmas.Map.Views.{tells_apart}
use Rattle.bep_session.specs.Ids.{closed, is_open, opened}

abbrev same : ℤ → ℤ → Bool
same = eq_by_cmp int_cmp

or_same : (b r : Bool) → (b || r) ≡ (b || (b || r))
or_same true r = refl
or_same false r = refl

or_swap : (a b r : Bool) → (b || (a || r)) ≡ (a || (b || r))
or_swap true true r = refl
or_swap true false r = refl
or_swap false b r = refl

-- ---- opened

opened_at : (o : Ordering) (id q x : ℤ) (xs : List ℤ) → int_cmp id x ≡ o → is_open (opened xs id) q ≡ (same q id || is_open xs q)
    → is_open (match_ordering o (id ∷ x ∷ xs) (x ∷ xs) (x ∷ opened xs id)) q ≡ (same q id || (same q x || is_open xs q))
opened_at Less id q x xs is later = refl
opened_at Equal id q x xs is later =
    or_same (same q x) (is_open xs q) ∙ ap (λ (y : ℤ). same q y || (same q x || is_open xs q)) (sym (exact_signed id x is))
opened_at Greater id q x xs is later = ap (λ (b : Bool). same q x || b) later ∙ or_swap (same q id) (same q x) (is_open xs q)

pub open-opened : (ids : List ℤ) (id q : ℤ) → is_open (opened ids id) q ≡ (same q id || is_open ids q)
open-opened [] id q = refl
open-opened (x ∷ xs) id q = opened_at (int_cmp id x) id q x xs refl (open-opened xs id q)

-- ---- closed

none_after : (x : ℤ) (xs : List ℤ) → AllByRecursion (λ y. same x y ≡ false) xs → is_open xs x ≡ false
none_after x [] h = refl
none_after x (y ∷ xs) h = ap (λ (b : Bool). b || is_open xs x) h.0 ∙ none_after x xs h.1

head_at : (b : Bool) (q x : ℤ) (xs : List ℤ) → same q x ≡ b → is_open xs x ≡ false → is_open xs q ≡ (not b && (b || is_open xs q))
head_at true q x xs is none = ap (is_open xs) (tells_apart exact_signed q x is) ∙ none
head_at false q x xs is none = refl

other_at : (b : Bool) (id q x : ℤ) (r : Bool) → same q id ≡ b → same id x ≡ false → (same q x || (not b && r)) ≡ (not b && (same q x || r))
other_at true id q x r is apart = ap (λ (y : ℤ). same y x || false) (tells_apart exact_signed q id is) ∙ ap (λ (b : Bool). b || false) apart
other_at false id q x r is apart = refl

closed_at : (b : Bool) (id q x : ℤ) (xs : List ℤ) → same id x ≡ b → is_open xs x ≡ false → is_open (closed xs id) q ≡ (not (same q id) && is_open xs q)
    → is_open (cond b xs (x ∷ closed xs id)) q ≡ (not (same q id) && (same q x || is_open xs q))
closed_at true id q x xs is none later =
    head_at (same q x) q x xs refl none
    ∙ ap (λ (y : ℤ). not (same q y) && (same q x || is_open xs q)) (sym (tells_apart exact_signed id x is))
closed_at false id q x xs is none later =
    ap (λ (b : Bool). same q x || b) later ∙ other_at (same q id) id q x (is_open xs q) refl is

and_false : (b : Bool) → false ≡ (b && false)
and_false true = refl
and_false false = refl

pub open-closed : (ids : List ℤ) (id q : ℤ) → IsDistinct same ids → is_open (closed ids id) q ≡ (not (same q id) && is_open ids q)
open-closed [] id q h = and_false (not (same q id))
open-closed (x ∷ xs) id q h =
    closed_at (same id x) id q x xs refl (none_after x xs (IsDistinct-head same x xs h)) (open-closed xs id q (IsDistinct-tail same x xs h))
