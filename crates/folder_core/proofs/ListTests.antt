-- Tests of lists of entries, and what they say of the map.
use Rattle.std.proofs.Common.{◌≡◌, ℕ, zero, suc, ◌<◌, length, get_or, arith, Bool, true, false, List, [], ◌∷◌, refl, sym, ap, subst, ◌∙◌, inl, inr}
use Rattle.std.proofs.lemmas.Bool.{true≢false, and_parts, and_from, or_cases, false_from_ne_true}
use Rattle.std.proofs.lemmas.Option.{none-some}
use Rattle.std.proofs.lemmas.Slice.Eq.{bytes_eq-Decides}
use Rattle.std.specs.Cmp.{IsTotalOrder, Equal-is, tied_itself}
use Rattle.std.specs.FinMap.{FinMap, IsAntisymmetric, entries, entries_sorted, get, get-entries, find, is_sorted}
use Rattle.std.specs.FinMap.Entries.{below_all}
use Rattle.std.specs.List.{list_all, list_any, find as first_where}
use Rattle.std.specs.Ordering.{eq_by_cmp, is_lt, is_eq, ordering_reverse}
use Rattle.std.specs.Prelude.{bytes_eq, ◌&&◌, ◌||◌, ◌⊎◌, cond, T, Option, Some, None, is_some, Result, Ok, Err, IfOk, unwrap_or, map, filter, Contains}
use Rattle.std.specs.declared.cmp.Ordering.{Ordering}
use Rattle.std.specs.declared.cmp.Ordering.TheVariants.{Less, Equal, Greater}
use Rattle.folder_core.specs.Announced.{Announced, KeyedRecord, Key}
use Rattle.sync_record.specs.Records.{FileRecord}

-- x is among the elements, by recursion
abbrev pub In : {A : Type 0} → A → List A → Type 0
In x [] = ⊥
In x (y ∷ ys) = (x ≡ y) ⊎ In x ys

-- the list has what is announced and nothing else
pub record Lists (a : Announced) (es : List KeyedRecord) : Type 0 where
  pub has : (k : Key) (r : FileRecord) → get a k ≡ Some r → In (k, r) es
  pub only : (e : KeyedRecord) → In e es → get a e.0 ≡ Some e.1

pub inside : {A : Type 0} (x y : A) → Some x ≡ Some y → x ≡ y
inside x y e = ap (λ o. unwrap_or o x) e

pub none_of : {A : Type 0} (o : Option A) → is_some o ≡ false → o ≡ None
none_of None e = refl
none_of (Some x) e = absurd (true≢false e)

pub same_bytes : (xs ys : List ℕ) → bytes_eq xs ys ≡ true → xs ≡ ys
same_bytes xs ys e = (bytes_eq-Decides xs ys).0 e

pub alike_bytes : (xs ys : List ℕ) → xs ≡ ys → bytes_eq xs ys ≡ true
alike_bytes xs ys e = (bytes_eq-Decides xs ys).1 e

pub by_or : (b : Bool) (P : Type 0) → (b ≡ true → P) → (b ≡ false → P) → P
by_or true P f g = f refl
by_or false P f g = g refl

module _ {A : Type 0} (p : A → Bool) where
  pub all_in : (xs : List A) → list_all p xs ≡ true → (x : A) → In x xs → p x ≡ true
  all_in [] e x i = absurd i
  all_in (y ∷ ys) e x (inl s) = ap p s ∙ (and_parts _ _ e).0
  all_in (y ∷ ys) e x (inr i) = all_in ys (and_parts _ _ e).1 x i

  pub in_all : (xs : List A) → ((x : A) → In x xs → p x ≡ true) → list_all p xs ≡ true
  in_all [] each = refl
  in_all (y ∷ ys) each = and_from _ _ (each y (inl refl)) (in_all ys (λ x i. each x (inr i)))

  here_or : (y : A) (ys : List A) → (p y ≡ true) ⊎ ((x : A) × In x ys × (p x ≡ true)) → (x : A) × In x (y ∷ ys) × (p x ≡ true)
  here_or y ys (inl here) = (y, inl refl, here)
  here_or y ys (inr r) = (r.0, inr r.1, r.2)

  or_rest : (y : A) (ys : List A) → (list_any p ys ≡ true → (x : A) × In x ys × (p x ≡ true)) → (p y ≡ true) ⊎ (list_any p ys ≡ true) → (p y ≡ true) ⊎ ((x : A) × In x ys × (p x ≡ true))
  or_rest y ys rest (inl here) = inl here
  or_rest y ys rest (inr there) = inr (rest there)

  pub any_in : (xs : List A) → list_any p xs ≡ true → (x : A) × In x xs × (p x ≡ true)
  any_in [] e = absurd (true≢false (sym e))
  any_in (y ∷ ys) e = here_or y ys (or_rest y ys (any_in ys) (or_cases (p y) (list_any p ys) e))

  pub in_any : (xs : List A) (x : A) → In x xs → p x ≡ true → list_any p xs ≡ true
  in_any [] x i e = absurd i
  in_any (y ∷ ys) x (inl s) e = ap (λ b. b || list_any p ys) (ap p (sym s) ∙ e)
  in_any (y ∷ ys) x (inr i) e = ap (λ b. p y || b) (in_any ys x i e) ∙ or_true (p y)
    where
      or_true : (b : Bool) → (b || true) ≡ true
      or_true true = refl
      or_true false = refl

  pub in_filter : (xs : List A) (x : A) → In x xs → p x ≡ true → In x (filter p xs)
  in_filter [] x i e = i
  in_filter (y ∷ ys) x (inl s) e = subst (λ b. In x (cond b (y ∷ filter p ys) (filter p ys))) (sym e ∙ ap p s) (inl s)
  in_filter (y ∷ ys) x (inr i) e =
      let rest : In x (filter p ys) = in_filter ys x i e in
      elim (p y) as (λ b. In x (cond b (y ∷ filter p ys) (filter p ys))) [ true ↦ inr rest | false ↦ rest ]

  kept : (y : A) (ys : List A) (x : A) → p y ≡ true → (In x (filter p ys) → In x ys × (p x ≡ true)) → (x ≡ y) ⊎ In x (filter p ys) → ((x ≡ y) ⊎ In x ys) × (p x ≡ true)
  kept y ys x t rest (inl s) = (inl s, ap p s ∙ t)
  kept y ys x t rest (inr i) = (inr (rest i).0, (rest i).1)

  pub of_filter : (xs : List A) (x : A) → In x (filter p xs) → In x xs × (p x ≡ true)
  of_filter [] x i = absurd i
  of_filter (y ∷ ys) x i =
      elim (p y) as (λ b. p y ≡ b → In x (cond b (y ∷ filter p ys) (filter p ys)) → ((x ≡ y) ⊎ In x ys) × (p x ≡ true)) [
        | true ↦ λ t i. kept y ys x t (of_filter ys x) i
        | false ↦ λ t i. (inr (of_filter ys x i).0, (of_filter ys x i).1)
      ] refl i

  pub found_in : (xs : List A) (x : A) → first_where p xs ≡ Some x → In x xs × (p x ≡ true)
  found_in [] x e = absurd (none-some x e)
  found_in (y ∷ ys) x e =
      elim (p y) as (λ b. p y ≡ b → cond b (Some y) (first_where p ys) ≡ Some x → ((x ≡ y) ⊎ In x ys) × (p x ≡ true)) [
        | true ↦ λ t s. (inl (sym (inside y x s)), ap p (sym (inside y x s)) ∙ t)
        | false ↦ λ t s. let r = found_in ys x s in (inr r.0, r.1)
      ] refl e

  later : (y : A) (ys : List A) (x : A) → p x ≡ true → p y ≡ false → (x ≡ y) ⊎ In x ys → In x ys
  later y ys x e t (inl s) = absurd (true≢false (sym e ∙ ap p s ∙ t))
  later y ys x e t (inr i) = i

  -- the only element that passes is found
  pub only_found : (xs : List A) (x : A) → In x xs → p x ≡ true → ((y : A) → In y xs → p y ≡ true → y ≡ x) → first_where p xs ≡ Some x
  only_found [] x i e only = absurd i
  only_found (y ∷ ys) x i e only =
      elim (p y) as (λ b. p y ≡ b → cond b (Some y) (first_where p ys) ≡ Some x) [
        | true ↦ λ t. ap Some (only y (inl refl) t)
        | false ↦ λ t. only_found ys x (later y ys x e t i) e (λ z j. only z (inr j))
      ] refl

module _ {A : Type 0} where
  pub in_contains : (xs : List A) (x : A) → In x xs → Contains xs x
  in_contains [] x i = absurd i
  in_contains (y ∷ ys) x (inl s) = (0, omega arith, sym s)
  in_contains (y ∷ ys) x (inr i) = let c = in_contains ys x i in (suc c.0, omega arith, c.2)

  contains_at : (xs : List A) (x : A) (k : ℕ) → k < length xs → get_or xs k x ≡ x → In x xs
  contains_at [] x k lt e = absurd (omega arith)
  contains_at (y ∷ ys) x zero lt e = inl (sym e)
  contains_at (y ∷ ys) x (suc k) lt e = inr (contains_at ys x k (omega arith) e)

  pub contains_in : (xs : List A) (x : A) → Contains xs x → In x xs
  contains_in xs x c = contains_at xs x c.0 c.1 c.2

module _ {A B : Type 0} (f : A → B) where
  pub in_map : (xs : List A) (x : A) → In x xs → In (f x) (map f xs)
  in_map [] x i = absurd i
  in_map (y ∷ ys) x (inl s) = inl (ap f s)
  in_map (y ∷ ys) x (inr i) = inr (in_map ys x i)

  pub of_map : (xs : List A) (y : B) → In y (map f xs) → (x : A) × In x xs × (f x ≡ y)
  of_map [] y i = absurd i
  of_map (x ∷ xs) y (inl s) = (x, inl refl, sym s)
  of_map (x ∷ xs) y (inr i) = let r = of_map xs y i in (r.0, inr r.1, r.2)

pub ok_then : {A E : Type 0} {P Q : A → Type 0} (r : Result A E) → ((x : A) → P x → Q x) → IfOk r P → IfOk r Q
ok_then (Ok x) each h = each x h
ok_then (Err e) each h = tt

tied : {K : Type 0} {R : K → K → Ordering} → IsAntisymmetric R → (x y : K) → eq_by_cmp R x y ≡ true → x ≡ y
tied {R = R} same x y e = same x y ((Equal-is (R x y)).0 e)

pub is_less : (r : Ordering) → T (is_lt r) → r ≡ Less
is_less Less h = refl
is_less Equal h = absurd h
is_less Greater h = absurd h

pub parts : (a b : Bool) → T (a && b) → T a × T b
parts true b h = (tt, h)
parts false b h = absurd h

not_equal : {A : Type 0} (r : Ordering) → r ≡ Greater → (x y : A) → cond (is_eq r) x y ≡ y
not_equal r e x y = ap (λ o. cond (is_eq o) x y) e

module _ {K X : Type 0} {R : K → K → Ordering} (o : IsTotalOrder R) (same : IsAntisymmetric R) where
  pub find_in : (es : List (K × X)) (k : K) (v : X) → find R k es ≡ Some v → In (k, v) es
  find_in [] k v e = absurd (none-some v e)
  find_in (e ∷ es) k v f =
      elim (eq_by_cmp R k e.0) as (λ b. eq_by_cmp R k e.0 ≡ b → cond b (Some e.1) (find R k es) ≡ Some v → ((k, v) ≡ e) ⊎ In (k, v) es) [
        | true ↦ λ t s. inl (λ i. (tied same k e.0 t i, sym (inside e.1 v s) i))
        | false ↦ λ t s. inr (find_in es k v s)
      ] refl f

  pub below_in : (q : K) (es : List (K × X)) → T (below_all R q es) → (x : K × X) → In x es → R q x.0 ≡ Less
  below_in q [] b x i = absurd i
  below_in q (e ∷ es) b x (inl s) = ap (λ (y : K × X). R q y.0) s ∙ is_less (R q e.0) (parts _ _ b).0
  below_in q (e ∷ es) b x (inr i) = below_in q es (parts _ _ b).1 x i

  in_find : (es : List (K × X)) → T (is_sorted R es) → (x : K × X) → In x es → find R x.0 es ≡ Some x.1
  in_find [] h x i = absurd i
  in_find (e ∷ es) h x (inl s) =
      ap (λ (y : K × X). cond (eq_by_cmp R y.0 e.0) (Some e.1) (find R y.0 es)) s
      ∙ ap (λ r. cond (is_eq r) (Some e.1) (find R e.0 es)) (tied_itself o e.0)
      ∙ ap (λ (y : K × X). Some y.1) (sym s)
  in_find (e ∷ es) h x (inr i) =
      not_equal (R x.0 e.0) (o.antisymm x.0 e.0 ∙ ap ordering_reverse (below_in e.0 es (parts _ _ h).0 x i)) (Some e.1) (find R x.0 es)
      ∙ in_find es (parts _ _ h).1 x i

  -- the entries are what the map has
  pub get_in : (m : FinMap R X) (k : K) (v : X) → get m k ≡ Some v → In (k, v) (entries m)
  get_in m k v e = find_in (entries m) k v (sym (get-entries m k) ∙ e)

  pub in_get : (m : FinMap R X) (x : K × X) → In x (entries m) → get m x.0 ≡ Some x.1
  in_get m x i = get-entries m x.0 ∙ in_find (entries m) (entries_sorted m) x i

-- Of a relation that is no one's own and chains, some element has nothing before it.
module _ {A : Type 0} (before : A → A → Bool) (own : (x : A) → before x x ≡ false) (chain : (x y z : A) → before x y ≡ true → before y z ≡ true → before x z ≡ true) where
  abbrev pub Free : List A → A → Type 0
  Free xs y = In y xs × ((z : A) → In z xs → before z y ≡ false)

  extend : (x y : A) (xs : List A) → Free xs y → (b : Bool) → before x y ≡ b → (z : A) × Free (x ∷ xs) z
  extend x y xs f true e = (x, (inl refl, none))
    where
      none : (z : A) → (z ≡ x) ⊎ In z xs → before z x ≡ false
      none z (inl s) = ap (λ w. before w x) s ∙ own x
      none z (inr i) = false_from_ne_true (before z x) (λ t. true≢false (sym (chain z x y t e) ∙ f.1 z i))
  extend x y xs f false e = (y, (inr f.0, none))
    where
      none : (z : A) → (z ≡ x) ⊎ In z xs → before z y ≡ false
      none z (inl s) = ap (λ w. before w y) s ∙ e
      none z (inr i) = f.1 z i

  pub some_free : (x : A) (xs : List A) → (y : A) × Free (x ∷ xs) y
  some_free x [] = (x, (inl refl, alone))
    where
      alone : (z : A) → (z ≡ x) ⊎ ⊥ → before z x ≡ false
      alone z (inl s) = ap (λ w. before w x) s ∙ own x
      alone z (inr i) = absurd i
  some_free x (w ∷ xs) = let r = some_free w xs in extend x r.0 (w ∷ xs) r.1 (before x r.0) refl
