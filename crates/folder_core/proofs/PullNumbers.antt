-- The number of a pull is the least positive number that no open pull has.
use Rattle.std.proofs.Common.{◌≡◌, ◌≢◌, ℕ, zero, suc, ◌+◌, ◌<◌, ◌≤◌, Bool, true, false, List, [], ◌∷◌, length, refl, sym, ap, subst, ◌∙◌, arith, ◌⊎◌, inl, inr}
use Rattle.std.specs.Prelude.{cond, not, ◌==◌, filter, find, map, Option, Some, None, unwrap_or}
use Rattle.std.specs.List.{list_any, range_with_len}
use Rattle.std.specs.FinMap.{get, entries}
use Rattle.std.proofs.lemmas.Bool.{true≢false, not-true, not-false, not_from_false, ne_eqb, eq-eqb, eqb-true, cases_eq}
use Rattle.std.proofs.lemmas.Option.{none-some}
use Rattle.sync_record.specs.Records.{Name}
use Rattle.folder_core.specs.States.{FolderState, Pull}
use Rattle.folder_core.specs.Steps.{least_free}
use Rattle.folder_core.proofs.Orders.{bytes_total, exact_names}
use Rattle.folder_core.proofs.ListTests.{inside, In, any_in, in_any, in_filter, in_map, of_map, get_in, in_get}

-- the first number of a range that passes
module _ (p : ℕ → Bool) where
  pub first-found : (a n k : ℕ) → find p (range_with_len a n) ≡ Some k → (a ≤ k) × (p k ≡ true) × ((m : ℕ) → a ≤ m → m < k → p m ≡ false)
  first-found a zero k e = absurd (none-some k e)
  first-found a (suc n) k e =
      elim (p a) as (λ b. p a ≡ b → cond b (Some a) (find p (range_with_len (a + 1) n)) ≡ Some k → (a ≤ k) × (p k ≡ true) × ((m : ℕ) → a ≤ m → m < k → p m ≡ false)) [
        | true ↦ λ t s. let here : a ≡ k = inside a k s in ((omega arith), ap p (sym here) ∙ t, λ m h l. absurd (omega arith))
        | false ↦ λ t s. let r = first-found (a + 1) n k s in ((let h = r.0 in omega arith), r.1, λ m h l. by t r.2 m l (cases_eq m a) h)
      ] refl e
    where
      by : p a ≡ false → ((m : ℕ) → a + 1 ≤ m → m < k → p m ≡ false) → (m : ℕ) → m < k → (m ≡ a) ⊎ (m ≡ a → ⊥) → a ≤ m → p m ≡ false
      by t rest m l (inl s) h = ap p s ∙ t
      by t rest m l (inr s) h = rest m (omega arith) l

  pub none-found : (a n : ℕ) → find p (range_with_len a n) ≡ None → (m : ℕ) → a ≤ m → m < a + n → p m ≡ false
  none-found a zero e m h l = absurd (omega arith)
  none-found a (suc n) e m h l =
      elim (p a) as (λ b. p a ≡ b → cond b (Some a) (find p (range_with_len (a + 1) n)) ≡ None → p m ≡ false) [
        | true ↦ λ t s. absurd (none-some a (sym s))
        | false ↦ λ t s. by t (none-found (a + 1) n s m) (cases_eq m a)
      ] refl e
    where
      by : p a ≡ false → (a + 1 ≤ m → m < a + 1 + n → p m ≡ false) → (m ≡ a) ⊎ (m ≡ a → ⊥) → p m ≡ false
      by t rest (inl s) = ap p s ∙ t
      by t rest (inr s) = rest (omega arith) (omega arith)

filter_shorter : {A : Type 0} (p : A → Bool) (xs : List A) → length (filter p xs) ≤ length xs
filter_shorter p [] = omega arith
filter_shorter p (x ∷ xs) =
    let h = filter_shorter p xs in
    elim (p x) as (λ b. length (cond b (x ∷ filter p xs) (filter p xs)) ≤ suc (length xs)) [ true ↦ omega arith | false ↦ omega arith ]

abbrev but : ℕ → ℕ → Bool
but a m = not (m == a)

-- without a number that it has, a list is shorter
without_one : (a : ℕ) (xs : List ℕ) → In a xs → length (filter (but a) xs) < length xs
without_one a [] i = absurd i
without_one a (x ∷ xs) (inl s) =
    let h = filter_shorter (but a) xs in
    subst (λ b. length (cond (not b) (x ∷ filter (but a) xs) (filter (but a) xs)) < suc (length xs)) (sym (eq-eqb x a (sym s))) (omega arith)
without_one a (x ∷ xs) (inr i) =
    let h = without_one a xs i in
    elim (but a x) as (λ b. length (cond b (x ∷ filter (but a) xs) (filter (but a) xs)) < suc (length xs)) [ true ↦ omega arith | false ↦ omega arith ]

-- a list that has n numbers in a row has n elements at least
holds_row : (n a : ℕ) (xs : List ℕ) → ((m : ℕ) → a ≤ m → m < a + n → In m xs) → n ≤ length xs
holds_row zero a xs each = omega arith
holds_row (suc n) a xs each =
    let shorter = without_one a xs (each a (omega arith) (omega arith)) in
    let rest = holds_row n (a + 1) (filter (but a) xs) (λ m h l.
    in_filter (but a) xs m (each m (omega arith) (omega arith)) (not_from_false (m == a) (ne_eqb m a (λ s. omega arith)))) in
    omega arith

module _ (used : List ℕ) where
  abbrev free : ℕ → Bool
  free n = not (list_any (λ m. m == n) used)

  used_in : (k : ℕ) → free k ≡ false → In k used
  used_in k f =
      let r = any_in (λ m. m == k) used (not-false (list_any (λ m. m == k) used) f) in
      subst (λ x. In x used) (eqb-true r.0 k r.2) r.1

  some-free : (k : ℕ) × (find free (range_with_len 1 (length used + 1)) ≡ Some k)
  some-free = by (find free (range_with_len 1 (length used + 1))) refl
    where
      by : (o : Option ℕ) → find free (range_with_len 1 (length used + 1)) ≡ o → (k : ℕ) × (o ≡ Some k)
      by (Some k) e = (k, refl)
      by None e = absurd (let h = holds_row (length used + 1) 1 used (λ m h l. used_in m (none-found free 1 (length used + 1) e m h l)) in omega arith)

  least-is : (1 ≤ least_free used) × (free (least_free used) ≡ true) × ((m : ℕ) → 1 ≤ m → m < least_free used → free m ≡ false)
  least-is =
      let is : some-free.0 ≡ least_free used = sym (ap (λ o. unwrap_or o 0) some-free.1) in
      subst (λ k. (1 ≤ k) × (free k ≡ true) × ((m : ℕ) → 1 ≤ m → m < k → free m ≡ false)) is
      (first-found free 1 (length used + 1) some-free.0 some-free.1)

  pub least_positive : 1 ≤ least_free used
  least_positive = least-is.0

  pub least_new : ¬ (In (least_free used) used)
  least_new i = true≢false (sym (in_any (λ m. m == least_free used) used (least_free used) i (eq-eqb (least_free used) (least_free used) refl)) ∙ not-true _ least-is.1)

  pub below_least : (m : ℕ) → 1 ≤ m → m < least_free used → In m used
  below_least m h l = used_in m (least-is.2 m h l)

-- the number of the next pull
abbrev pub numbers : FolderState → List ℕ
numbers s = map (λ e. e.1.number) (entries s.pulls)

abbrev pub IsLeastNew : FolderState → ℕ → Type 0
IsLeastNew s k =
    (1 ≤ k) × ((m : Name) (p : Pull) → get s.pulls m ≡ Some p → p.number ≢ k)
    × ((j : ℕ) → 1 ≤ j → j < k → (m : Name) × (p : Pull) × (get s.pulls m ≡ Some p) × (p.number ≡ j))

pub number-least : (s : FolderState) → IsLeastNew s (least_free (numbers s))
number-least s = (
  least_positive (numbers s),
  λ m p g same. least_new (numbers s) (subst (λ k. In k (numbers s)) same
      (in_map (λ (e : Name × Pull). e.1.number) (entries s.pulls) (m, p) (get_in bytes_total exact_names s.pulls m p g))),
  λ j h l.
      let r = of_map (λ (e : Name × Pull). e.1.number) (entries s.pulls) j (below_least (numbers s) j h l) in
      (r.0.0, r.0.1, in_get bytes_total exact_names s.pulls r.0 r.1, r.2),
)
