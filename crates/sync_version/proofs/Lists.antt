-- Tests of lists of counters, and what is among them.
use Rattle.std.proofs.Common.{◌≡◌, ℕ, zero, suc, ◌<◌, ◌≤◌, Bool, true, false, List, [], ◌∷◌, refl, sym, ap, subst, ◌∙◌, inl, inr, arith, length, get_or}
use Rattle.std.specs.Prelude.{All, nat_eq, ◌&&◌, ◌⊎◌, cond, T, Some, None, unwrap_or, filter, Contains}
use Rattle.std.specs.List.{list_all}
use Rattle.std.specs.declared.cmp.Ordering.{Ordering}
use Rattle.std.specs.declared.cmp.Ordering.TheVariants.{Less, Equal, Greater}
use Rattle.std.specs.Ordering.{eq_by_cmp, is_lt, is_eq, ordering_reverse, nat_cmp}
use Rattle.std.specs.Cmp.{Equal-is, tied_itself, nat_cmp_total}
use Rattle.std.specs.FinMap.{find, is_sorted, nat_cmp-IsAntisymmetric}
use Rattle.std.specs.FinMap.Entries.{below_all}
use Rattle.std.proofs.lemmas.Bool.{and_parts, and_from, cases_lt, lt-ltb}
use Rattle.std.proofs.lemmas.List.Elements.{All-nil, All-cons}

pub parts : (a b : Bool) → T (a && b) → T a × T b
parts true b h = (tt, h)
parts false b h = absurd h

pub with_parts : (a b : Bool) → T a → T b → T (a && b)
with_parts true b p q = q
with_parts false b p q = absurd p

pub is_true : (b : Bool) → T b → b ≡ true
is_true true h = refl
is_true false h = absurd h

-- x is an element of the list
abbrev pub In : {A : Type 0} → A → List A → Type 0
In x [] = ⊥
In x (y ∷ ys) = (x ≡ y) ⊎ In x ys

module _ {A : Type 0} where
  pub in_contains : (xs : List A) (x : A) → In x xs → Contains xs x
  in_contains [] x i = absurd i
  in_contains (y ∷ ys) x (inl s) = (0, omega arith, sym s)
  in_contains (y ∷ ys) x (inr i) = let c = in_contains ys x i in (suc c.0, omega arith, c.2)

  contains_at : (xs : List A) (x : A) (k : ℕ) → k < length xs → get_or xs k x ≡ x → In x xs
  contains_at [] x k lt e = absurd (omega arith)
  contains_at (y ∷ ys) x zero lt e = inl (sym e)
  contains_at (y ∷ ys) x (suc k) lt e = inr (contains_at ys x k (omega arith) e)

  pub contains_in : (xs : List A) (x : A) → Contains xs x → In x xs
  contains_in xs x c = contains_at xs x c.0 c.1 c.2

module _ {A : Type 0} (p : A → Bool) where
  pub all_in : (xs : List A) → list_all p xs ≡ true → (x : A) → In x xs → p x ≡ true
  all_in [] e x i = absurd i
  all_in (y ∷ ys) e x (inl s) = ap p s ∙ (and_parts _ _ e).0
  all_in (y ∷ ys) e x (inr i) = all_in ys (and_parts _ _ e).1 x i

  pub in_all : (xs : List A) → ((x : A) → In x xs → p x ≡ true) → list_all p xs ≡ true
  in_all [] each = refl
  in_all (y ∷ ys) each = and_from _ _ (each y (inl refl)) (in_all ys (λ x i. each x (inr i)))

  pub in_filter : (xs : List A) (x : A) → In x xs → p x ≡ true → In x (filter p xs)
  in_filter [] x i e = i
  in_filter (y ∷ ys) x (inl s) e = subst (λ b. In x (cond b (y ∷ filter p ys) (filter p ys))) (sym e ∙ ap p s) (inl s)
  in_filter (y ∷ ys) x (inr i) e =
      let rest : In x (filter p ys) = in_filter ys x i e in
      elim (p y) as (λ b. In x (cond b (y ∷ filter p ys) (filter p ys))) [ true ↦ inr rest | false ↦ rest ]

  kept : (y : A) (ys : List A) (x : A) → p y ≡ true → (In x (filter p ys) → In x ys × (p x ≡ true)) → (x ≡ y) ⊎ In x (filter p ys) → ((x ≡ y) ⊎ In x ys) × (p x ≡ true)
  kept y ys x t rest (inl s) = (inl s, ap p s ∙ t)
  kept y ys x t rest (inr i) = (inr (rest i).0, (rest i).1)

  pub of_filter : (xs : List A) (x : A) → In x (filter p xs) → In x xs × (p x ≡ true)
  of_filter [] x i = absurd i
  of_filter (y ∷ ys) x i =
      elim (p y) as (λ b. p y ≡ b → In x (cond b (y ∷ filter p ys) (filter p ys)) → ((x ≡ y) ⊎ In x ys) × (p x ≡ true)) [
        | true ↦ λ t i. kept y ys x t (of_filter ys x) i
        | false ↦ λ t i. (inr (of_filter ys x i).0, (of_filter ys x i).1)
      ] refl i

pub inside : {A : Type 0} (x y : A) → Some x ≡ Some y → x ≡ y
inside x y e = ap (λ o. unwrap_or o x) e

pub none_some : {A : Type 0} (x : A) → None ≡ Some x → ⊥
none_some x e = cc

is_less : (r : Ordering) → T (is_lt r) → r ≡ Less
is_less Less h = refl
is_less Equal h = absurd h
is_less Greater h = absurd h

not_equal : {A : Type 0} (r : Ordering) → r ≡ Greater → (x y : A) → cond (is_eq r) x y ≡ y
not_equal r e x y = ap (λ o. cond (is_eq o) x y) e

pub tied : (x y : ℕ) → eq_by_cmp nat_cmp x y ≡ true → x ≡ y
tied x y e = nat_cmp-IsAntisymmetric x y ((Equal-is (nat_cmp x y)).0 e)

pub find_in : (es : List (ℕ × ℕ)) (k v : ℕ) → find nat_cmp k es ≡ Some v → In (k, v) es
find_in [] k v e = absurd (none_some v e)
find_in (e ∷ es) k v f =
    elim (eq_by_cmp nat_cmp k e.0) as (λ b. eq_by_cmp nat_cmp k e.0 ≡ b → cond b (Some e.1) (find nat_cmp k es) ≡ Some v → ((k, v) ≡ e) ⊎ In (k, v) es) [
      | true ↦ λ t s. inl (λ i. (tied k e.0 t i, sym (inside e.1 v s) i))
      | false ↦ λ t s. inr (find_in es k v s)
    ] refl f

pub below_in : (q : ℕ) (es : List (ℕ × ℕ)) → T (below_all nat_cmp q es) → (x : ℕ × ℕ) → In x es → nat_cmp q x.0 ≡ Less
below_in q [] b x i = absurd i
below_in q (e ∷ es) b x (inl s) = ap (λ (y : ℕ × ℕ). nat_cmp q y.0) s ∙ is_less (nat_cmp q e.0) (parts _ _ b).0
below_in q (e ∷ es) b x (inr i) = below_in q es (parts _ _ b).1 x i

pub in_below : (q : ℕ) (es : List (ℕ × ℕ)) → ((x : ℕ × ℕ) → In x es → nat_cmp q x.0 ≡ Less) → T (below_all nat_cmp q es)
in_below q [] each = tt
in_below q (e ∷ es) each = with_parts _ _ (subst (λ r. T (is_lt r)) (sym (each e (inl refl))) tt) (in_below q es (λ x i. each x (inr i)))

pub in_find : (es : List (ℕ × ℕ)) → T (is_sorted nat_cmp es) → (x : ℕ × ℕ) → In x es → find nat_cmp x.0 es ≡ Some x.1
in_find [] h x i = absurd i
in_find (e ∷ es) h x (inl s) =
    ap (λ (y : ℕ × ℕ). cond (eq_by_cmp nat_cmp y.0 e.0) (Some e.1) (find nat_cmp y.0 es)) s
    ∙ ap (λ r. cond (is_eq r) (Some e.1) (find nat_cmp e.0 es)) (tied_itself nat_cmp_total e.0)
    ∙ ap (λ (y : ℕ × ℕ). Some y.1) (sym s)
in_find (e ∷ es) h x (inr i) =
    not_equal (nat_cmp x.0 e.0) (nat_cmp_total.antisymm x.0 e.0 ∙ ap ordering_reverse (below_in e.0 es (parts _ _ h).0 x i)) (Some e.1) (find nat_cmp x.0 es)
    ∙ in_find es (parts _ _ h).1 x i

pub all_of : {A : Type 0} (P : A → Type 0) (xs : List A) → ((x : A) → In x xs → P x) → All P xs
all_of P [] each = All-nil P
all_of P (x ∷ xs) each = All-cons P x xs (each x (inl refl)) (all_of P xs (λ y i. each y (inr i)))

pub le_or_lt : (m n : ℕ) → (m ≤ n) ⊎ (n < m)
le_or_lt m n = by (cases_lt n m)
  where
    by : (n < m) ⊎ (m ≤ n) → (m ≤ n) ⊎ (n < m)
    by (inl lt) = inr lt
    by (inr le) = inl le

pub zero_or_above : (n : ℕ) → (n ≡ 0) ⊎ (0 < n)
zero_or_above zero = inl refl
zero_or_above (suc n) = inr (omega arith)

pub less_of : (x y : ℕ) → x < y → nat_cmp x y ≡ Less
less_of x y h = ap (λ b. cond b Less (cond (nat_eq x y) Equal Greater)) (lt-ltb x y h)
