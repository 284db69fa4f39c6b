-- Lists without repeats in another order, and entries that rise.
use Rattle.std.proofs.Common.{◌≡◌, ◌≢◌, ◌↔◌, ℕ, zero, suc, ◌+◌, ◌<◌, ◌≤◌, Bool, true, false, List, [], ◌∷◌, length, get_or, refl, sym, ap, subst, ◌∙◌, arith, inl, inr}
use Rattle.std.specs.Prelude.{AllPairs, map, sum_by, cond, T, ◌==◌, nat_lt, IsTrue}
use Rattle.std.specs.Bool.{Decides, passes}
use Rattle.std.specs.Cmp.{IsStrictWeakOrder}
use Rattle.std.specs.FinMap.{is_sorted}
use Rattle.std.specs.FinMap.Entries.{below_all}
use Rattle.std.specs.List.{IsAllAdjacentAnswer}
use Rattle.std.specs.List.Sorted.{IsPermutation, IsSorted, IsSortedBy}
use Rattle.std.specs.Ordering.{eq_by_cmp, is_eq, is_lt, nat_cmp, ordering_reverse}
use Rattle.std.specs.declared.cmp.Ordering.{Ordering}
use Rattle.std.specs.declared.cmp.Ordering.TheVariants.{Less, Equal, Greater}
use Rattle.std.proofs.lemmas.Bool.{eqb-true, eq-eqb, ltb-true, ltb-false, true≢false}
use Rattle.std.proofs.lemmas.List.Kept.{AllPairs-from_increasing}
use Rattle.std.proofs.lemmas.List.Sorted.{IsPermutation-map, IsPermutation-sym, ranks_by, sum_by-IsPermutation}
use Rattle.std.proofs.lemmas.List.Sums.{sum_by-cons}
use Rattle.std.proofs.lemmas.Map.Keys.{ge_from_not_lt}
use Rattle.folder_core.specs.declared.announcement.Announcement.{Announcement as Entry}
use Rattle.folder_core.specs.Announced.{Key, key_cmp}
use Rattle.folder_core.specs.Plain.{filed}
use Rattle.folder_core.specs.PlainRestores.{IsOnce}
use Rattle.folder_core.proofs.ListFilters.{join, less_is}
use Rattle.folder_core.proofs.ListTests.{In, below_in, by_or, in_map, is_less, of_map, parts}
use Rattle.folder_core.proofs.Orders.{exact_keys, is_true, keys_total}
use Rattle.folder_core.proofs.ReadLists.{Apart, apart-pairs, not-itself, pairs-apart}
use Rattle.folder_core.proofs.RestoreFolders.{apart-pairs_by, pairs-apart_by, tie}

-- ---- elements that are apart stay so in another order

module _ {A : Type 0} (eq : A → A → Bool) (same : (x y : A) → Decides (eq x y) (x ≡ y)) where
  one : A → A → ℕ
  one x y = cond (eq x y) 1 0

  times : A → List A → ℕ
  times x xs = sum_by (one x) xs

  one-is : (x y : A) (b : Bool) → eq x y ≡ b → one x y ≡ cond b 1 0
  unfolding one
  one-is x y b e = ap (λ b. cond b 1 0) e

  none-there : (x : A) (xs : List A) → ¬ (In x xs) → times x xs ≡ 0
  unfolding times
  none-there x [] not = refl
  none-there x (y ∷ ys) not =
      let rest = none-there x ys (λ i. not (inr i)) in
      let whole = sum_by-cons (one x) y ys in
      by_or (eq x y) (sum_by (one x) (y ∷ ys) ≡ 0)
      (λ t. absurd (not (inl ((same x y).0 t))))
      (λ f. let here = one-is x y false f in omega arith)

  some-there : (x : A) (xs : List A) → In x xs → 1 ≤ times x xs
  unfolding times
  some-there x [] i = absurd i
  some-there x (y ∷ ys) (inl e) =
      let whole = sum_by-cons (one x) y ys in
      let here = one-is x y true ((same x y).1 e) in
      omega arith
  some-there x (y ∷ ys) (inr i) =
      let whole = sum_by-cons (one x) y ys in
      let rest = some-there x ys i in
      omega arith

  apart-once : (xs : List A) → Apart xs → (x : A) → times x xs ≤ 1
  unfolding times
  apart-once [] apart x = omega arith
  apart-once (y ∷ ys) apart x =
      let whole = sum_by-cons (one x) y ys in
      by_or (eq x y) (sum_by (one x) (y ∷ ys) ≤ 1)
      (λ t.
      let here = one-is x y true t in
      let rest = none-there x ys (λ i. apart.0 (subst (λ z. In z ys) ((same x y).0 t) i)) in
      omega arith)
      (λ f.
      let here = one-is x y false f in
      let rest = apart-once ys apart.1 x in
      omega arith)

  once-apart : (xs : List A) → ((x : A) → times x xs ≤ 1) → Apart xs
  unfolding times
  once-apart [] once = tt
  once-apart (y ∷ ys) once = (
    λ i.
        let whole = sum_by-cons (one y) y ys in
        let here = one-is y y true ((same y y).1 refl) in
        let rest = some-there y ys i in
        let most = once y in
        let none : 2 ≤ 1 = omega arith in
        omega arith,
    once-apart ys (λ x.
        let whole = sum_by-cons (one x) y ys in
        let most = once x in
        omega arith),
  )

  pub apart-permuted : (xs ys : List A) → IsPermutation xs ys → Apart xs → Apart ys
  unfolding times
  apart-permuted xs ys p apart = once-apart ys (λ x. subst (λ n. n ≤ 1) (sym (sum_by-IsPermutation (one x) xs ys p)) (apart-once xs apart x))

-- ---- numbers

number-Decides : (m n : ℕ) → Decides (m == n) (m ≡ n)
number-Decides m n = (eqb-true m n, eq-eqb m n)

pub numbers-permuted : (xs ys : List ℕ) → IsPermutation xs ys → Apart xs → Apart ys
numbers-permuted = apart-permuted (λ m n. m == n) number-Decides

-- sorted numbers are apart exactly if each is below the next
pub numbers-apart : (given sorted : List ℕ) (r : Bool) → IsPermutation given sorted → IsSorted nat_cmp sorted → IsAllAdjacentAnswer (λ m n b. b ≡ nat_lt m n) sorted r
    → IsTrue r ↔ AllPairs (λ m n. m ≢ n) given
numbers-apart given sorted true p rise each = (
  λ t. apart-pairs given (numbers-permuted sorted given (IsPermutation-sym given sorted p) (pairs-apart sorted (λ i j d before below e.
      let less = AllPairs-from_increasing sorted (λ k short. ltb-true _ _ (sym (each k 0 (omega arith)))) i j d before below in
      omega arith))),
  λ pairs. refl,
)
numbers-apart given sorted false p rise found = (
  λ t. absurd (true≢false (sym t)),
  λ pairs.
      let k : ℕ = found.0 in
      let short : k + 1 < length sorted = found.1 in
      let most : get_or sorted (k + 1) 0 ≤ get_or sorted k 0 = ltb-false _ _ (sym (found.2 0)) in
      let least : get_or sorted k 0 ≤ get_or sorted (k + 1) 0 = ge_from_not_lt (get_or sorted (k + 1) 0) (get_or sorted k 0) (rise k 0 (omega arith) (omega arith)) in
      let apart = apart-pairs sorted (numbers-permuted given sorted p (pairs-apart given pairs)) k (k + 1) 0 (omega arith) short in
      absurd (apart (omega arith)),
)

-- ---- entries in order

abbrev pub key_at : Entry → Key
key_at e = (filed e).0

abbrev pub before : Entry → Entry → Bool
before e f = is_lt (key_cmp (key_at e) (key_at f))

pub before_ranks : IsStrictWeakOrder before
before_ranks = ranks_by keys_total key_at

-- each entry is before the next
abbrev pub InOrder : List Entry → Type 0
InOrder es = (k : ℕ) (d : Entry) → suc k < length es → before (get_or es k d) (get_or es (suc k) d) ≡ true

above : (x y : Entry) (es : List Entry) → key_cmp (key_at x) (key_at y) ≡ Less → T (below_all key_cmp (key_at y) (map filed es)) → T (below_all key_cmp (key_at x) (map filed es))
above x y [] less h = tt
above x y (z ∷ es) less h =
    let p = parts _ _ h in
    join _ _ (less_is _ (keys_total.trans (key_at x) (key_at y) (key_at z) less (is_less _ p.0))) (above x y es less p.1)

in_order-rises : (es : List Entry) → InOrder es → T (is_sorted key_cmp (map filed es))
in_order-rises [] each = tt
in_order-rises (x ∷ []) each = tt
in_order-rises (x ∷ y ∷ es) each =
    let rest = in_order-rises (y ∷ es) (λ k d short. each (suc k) d (omega arith)) in
    let less : key_cmp (key_at x) (key_at y) ≡ Less = is_less _ (passes _ (each 0 x (omega arith))) in
    join _ _ (join _ _ (less_is _ less) (above x y es less (parts _ _ rest).0)) rest

rises-in_order : (es : List Entry) → T (is_sorted key_cmp (map filed es)) → InOrder es
rises-in_order [] h k d short = absurd (omega arith)
rises-in_order (x ∷ []) h k d short = absurd (omega arith)
rises-in_order (x ∷ y ∷ es) h zero d short = is_true _ (parts _ _ (parts _ _ h).0).0
rises-in_order (x ∷ y ∷ es) h (suc k) d short = rises-in_order (y ∷ es) (parts _ _ h).1 k d (omega arith)

-- what a test of each two neighbours answers
pub rises-tested : (es : List Entry) (r : Bool) → IsAllAdjacentAnswer (λ e f b. b ≡ before e f) es r → r ≡ is_sorted key_cmp (map filed es)
rises-tested es true each =
    sym (is_true _ (in_order-rises es (λ k d short.
    let more : k + 1 ≡ suc k = omega arith in
    subst (λ j. before (get_or es k d) (get_or es j d) ≡ true) more (sym (each k d (omega arith))))))
rises-tested es false found =
    let k : ℕ = found.0 in
    let more : k + 1 ≡ suc k = omega arith in
    by_or (is_sorted key_cmp (map filed es)) (false ≡ is_sorted key_cmp (map filed es))
    (λ t. first es (λ d.
    true≢false (sym (rises-in_order es (passes _ t) k d (let s = found.1 in omega arith))
    ∙ ap (λ j. before (get_or es k d) (get_or es j d)) (sym more) ∙ sym (found.2 d))) (let s = found.1 in omega arith))
    (λ f. sym f)
  where
    first : {P : Type 0} (es : List Entry) → (Entry → ⊥) → 0 < length es → P
    first [] none some = absurd (omega arith)
    first (e ∷ es) none some = absurd (none e)

-- entries in order, of which none has the key of the next, rise
neither : (q r : Key) → is_lt (key_cmp r q) ≡ false → q ≢ r → is_lt (key_cmp q r) ≡ true
neither q r not other =
    by_order (key_cmp q r) refl
  where
    by_order : (o : Ordering) → key_cmp q r ≡ o → is_lt (key_cmp q r) ≡ true
    by_order Less e = ap is_lt e
    by_order Equal e = absurd (other (exact_keys q r e))
    by_order Greater e = absurd (true≢false (sym (ap is_lt (keys_total.antisymm r q ∙ ap ordering_reverse e)) ∙ not))

pub strictly : (es : List Entry) → IsSortedBy before es → IsOnce es → is_sorted key_cmp (map filed es) ≡ true
strictly es sorted once = is_true _ (in_order-rises es (λ k d short.
    let more : k + 1 ≡ suc k = omega arith in
    neither (key_at (get_or es k d)) (key_at (get_or es (suc k) d))
    (subst (λ j. before (get_or es j d) (get_or es k d) ≡ false) more (sorted k d (omega arith) (omega arith)))
    (once k (suc k) d (omega arith) short)))

-- ---- entries of which no two have one key

key-Decides : (q r : Key) → Decides (eq_by_cmp key_cmp q r) (q ≡ r)
key-Decides q r = (λ t. exact_keys q r (equal _ t), λ e. ap (eq_by_cmp key_cmp q) (sym e) ∙ tie q)
  where
    equal : (o : Ordering) → is_eq o ≡ true → o ≡ Equal
    equal Less t = absurd (true≢false (sym t))
    equal Equal t = refl
    equal Greater t = absurd (true≢false (sym t))

pub keys-permuted : (es fs : List Entry) → IsPermutation es fs → Apart (map key_at es) → Apart (map key_at fs)
keys-permuted es fs p = apart-permuted (eq_by_cmp key_cmp) key-Decides (map key_at es) (map key_at fs) (IsPermutation-map key_at es fs p)

pub once-permuted : (es fs : List Entry) → IsPermutation es fs → IsOnce es → IsOnce fs
once-permuted es fs p once = apart-pairs_by key_at fs (keys-permuted es fs p (pairs-apart_by key_at es once))

pub rising-keys : (es : List Entry) → T (is_sorted key_cmp (map filed es)) → Apart (map key_at es)
rising-keys [] h = tt
rising-keys (e ∷ es) h = (
  λ i.
      let m = of_map key_at es (key_at e) i in
      let less = below_in keys_total exact_keys (key_at e) (map filed es) (parts _ _ h).0 (filed m.0) (in_map filed es m.0 m.1) in
      not-itself key_cmp keys_total (key_at e) (subst (λ k. key_cmp (key_at e) k ≡ Less) m.2 less),
  rising-keys es (parts _ _ h).1,
)
