-- Maps at the parents of a name that are not parents of one further up.
use Rattle.std.proofs.Common.{◌≡◌, ℕ, ◌<◌, ◌≤◌, ◌⊎◌, Bool, true, false, cond, inl, inr, List, [], ◌∷◌, length, refl, sym, ap, subst, ◌∙◌, arith, Some, None, Option}
use Rattle.std.specs.Prelude.{bytes_eq, ◌&&◌, ◌||◌, not, is_some}
use Rattle.std.proofs.lemmas.Bool.{both_ways, cases_Bool, and_parts, and_from, or_cases, eqb-true, eq-eqb, false≢true}
use Rattle.std.proofs.lemmas.Slice.Eq.{bytes_eq-Decides}
use Rattle.file_store.specs.declared.node.Node.{Node}
use Rattle.file_store.specs.declared.node.Node.TheVariants.{Directory}
use Rattle.file_store.specs.Maps.{put_at}
use Rattle.file_store.specs.Names.{Name, is_parent}
use Rattle.file_store.specs.Trees.{is_file}

pub same_bytes : (a : List ℕ) → bytes_eq a a ≡ true
same_bytes a = (bytes_eq-Decides a a).1 refl

pub same_name : (a b : List ℕ) → bytes_eq a b ≡ true → a ≡ b
same_name a b e = (bytes_eq-Decides a b).0 e

pub parent_shorter : (p n : Name) → is_parent p n ≡ true → length p < length n
parent_shorter [] [] h = absurd (false≢true h)
parent_shorter [] (y ∷ ys) h = omega arith
parent_shorter (x ∷ xs) [] h = absurd (false≢true h)
parent_shorter (x ∷ xs) (y ∷ ys) h = let l = parent_shorter xs ys (and_parts _ _ h).1 in omega arith

pub not_own_parent : (p : Name) → is_parent p p ≡ false
not_own_parent p = elim (cases_Bool (is_parent p p)) [
  | inl yes' ↦ absurd (let l = parent_shorter p p yes' in omega arith)
  | inr no' ↦ no'
]

pub parent_trans : (p q n : Name) → is_parent p q ≡ true → is_parent q n ≡ true → is_parent p n ≡ true
parent_trans [] [] n h k = absurd (false≢true h)
parent_trans [] (y ∷ ys) [] h k = absurd (false≢true k)
parent_trans [] (y ∷ ys) (z ∷ zs) h k = eq-eqb z 47 (sym (eqb-true y z (and_parts _ _ k).0) ∙ eqb-true y 47 h)
parent_trans (x ∷ xs) [] n h k = absurd (false≢true h)
parent_trans (x ∷ xs) (y ∷ ys) [] h k = absurd (false≢true k)
parent_trans (x ∷ xs) (y ∷ ys) (z ∷ zs) h k =
    and_from _ _ (eq-eqb x z (eqb-true x y (and_parts _ _ h).0 ∙ eqb-true y z (and_parts _ _ k).0)) (parent_trans xs ys zs (and_parts _ _ h).1 (and_parts _ _ k).1)

-- p is the directory that r is in
abbrev pub IsLast : Name → Name → Type 0
IsLast p r = (q : Name) → is_parent q r ≡ (bytes_eq p q || is_parent q p)

abbrev pub Reaches : Name → Name → Type 0
Reaches rest name = (rest ≡ name) ⊎ (is_parent rest name ≡ true)

or_left : (a b : Bool) → a ≡ true → (a || b) ≡ true
or_left true b e = refl
or_left false b e = absurd (false≢true e)

or_right : (a b : Bool) → b ≡ true → (a || b) ≡ true
or_right true b e = refl
or_right false b e = e

or_none : (a b : Bool) → (a || b) ≡ false → (a ≡ false) × (b ≡ false)
or_none true b e = absurd (both_ways true e refl)
or_none false b e = (refl, e)

module _ (p r : Name) (last : IsLast p r) where
  pub last_is_parent : is_parent p r ≡ true
  last_is_parent = last p ∙ or_left _ _ (same_bytes p)

  pub above_last : (q : Name) → is_parent q p ≡ true → is_parent q r ≡ true
  above_last q e = last q ∙ or_right _ _ e

  pub parent_of_last : (q : Name) → is_parent q r ≡ true → (p ≡ q) ⊎ (is_parent q p ≡ true)
  parent_of_last q e = elim (or_cases _ _ (sym (last q) ∙ e)) [ inl a ↦ inl (same_name p q a) | inr b ↦ inr b ]

  pub reach_up : (n : Name) → Reaches r n → Reaches p n
  reach_up n (inl e) = inr (subst (λ m. is_parent p m ≡ true) e last_is_parent)
  reach_up n (inr e) = inr (parent_trans p r n last_is_parent e)

  -- from below, what is not at r is at its directory or above
  pub reach_down : (top : Name) → Reaches top r → length top < length r → Reaches top p
  reach_down top (inl e) h = absurd (let same : length top ≡ length r = ap length e in omega arith)
  reach_down top (inr e) h = elim (parent_of_last top e) [ inl a ↦ inl (sym a) | inr b ↦ inr b ]

pub reached_parent : (rest name : Name) → Reaches rest name → (q : Name) → is_parent q rest ≡ true → is_parent q name ≡ true
reached_parent rest name (inl e) q h = subst (λ m. is_parent q m ≡ true) e h
reached_parent rest name (inr e) q h = parent_trans q rest name h e

pub reached : (top rest : Name) → Reaches top rest → length rest ≤ length top → rest ≡ top
reached top rest (inl e) h = sym e
reached top rest (inr e) h = absurd (let l = parent_shorter top rest e in omega arith)

pub none_above : (top rest : Name) → Reaches top rest → ((q : Name) → is_parent q rest ≡ false) → rest ≡ top
none_above top rest (inl e) h = sym e
none_above top rest (inr e) h = absurd (both_ways _ (h top) e)

-- the map with x at each parent of the name that is not a parent of rest
abbrev pub between : {X : Type 0} → Name → Name → Option X → (Name → Option X) → Name → Option X
between name rest x f q = cond (is_parent q name && not (is_parent q rest)) x (f q)

step_bool : {X : Type 0} (e a b c : Bool) (x f : Option X) → b ≡ (e || c) → (e ≡ true → a ≡ true) → (e ≡ true → c ≡ false) → cond e x (cond (a && not b) x f) ≡ cond (a && not c) x f
step_bool true a b c x f is up low = sym (ap (λ m. cond (m && not c) x f) (up refl) ∙ ap (λ m. cond (not m) x f) (low refl))
step_bool false a b c x f is up low = ap (λ m. cond (a && not m) x f) is

module _ {X : Type 0} (name : Name) (x : Option X) (f : Name → Option X) where
  pub between_up : (p rest : Name) → IsLast p rest → Reaches rest name → (q : Name) → put_at p x (between name rest x f) q ≡ between name p x f q
  between_up p rest last reach q =
      step_bool (bytes_eq p q) (is_parent q name) (is_parent q rest) (is_parent q p) x (f q) (last q)
      (λ e. let same = same_name p q e in
      reached_parent rest name reach q (last q ∙ or_left _ _ e))
      (λ e. ap (λ m. is_parent m p) (sym (same_name p q e)) ∙ not_own_parent p)

-- what the loop that makes directories keeps
pub record IsMaking (f g : Name → Option Node) (name rest : Name) : Type 0 where
  pub reach : Reaches rest name
  pub made : (q : Name) → g q ≡ between name rest (Some Directory) f q
  pub missing : (q : Name) → is_parent q name ≡ true → is_parent q rest ≡ false → f q ≡ None

undo_bool : (a b : Bool) (f : Option Node) → (a ≡ true → b ≡ false → f ≡ None) → cond (a && not b) None (cond (a && not b) (Some Directory) f) ≡ f
undo_bool true true f h = refl
undo_bool true false f h = sym (h refl refl)
undo_bool false b f h = refl

module _ (f g : Name → Option Node) (name rest : Name) (k : IsMaking f g name rest) where
  -- at a parent of rest the map is as it was
  pub as_before : (q : Name) → is_parent q rest ≡ true → g q ≡ f q
  as_before q h = k.made q ∙ ap (λ b. cond (is_parent q name && not b) (Some Directory) (f q)) h ∙ nothing (is_parent q name) (f q)
    where
      nothing : (a : Bool) (x : Option Node) → cond (a && false) (Some Directory) x ≡ x
      nothing true x = refl
      nothing false x = refl

  pub making_goes_on : (h : Name → Option Node) (p : Name) → IsLast p rest → is_some (g p) ≡ false → ((q : Name) → h q ≡ put_at p (Some Directory) g q) → IsMaking f h name p
  making_goes_on h p last none is = record {
    reach = reach_up p rest last name k.reach;
    made = λ q. is q ∙ ap (λ o. cond (bytes_eq p q) (Some Directory) o) (k.made q) ∙ between_up name (Some Directory) f p rest last k.reach q;
    missing = λ q a b. elim (cases_Bool (is_parent q rest)) [
      | inl e ↦ elim (parent_of_last p rest last q e) [
        | inl same ↦ ap f (sym same) ∙ sym (as_before p (last_is_parent p rest last)) ∙ is_none (g p) none
        | inr up ↦ absurd (both_ways _ b up)
      ]
      | inr e ↦ k.missing q a e
    ];
  }
    where
      is_none : (o : Option Node) → is_some o ≡ false → o ≡ None
      is_none None e = refl
      is_none (Some x) e = absurd (both_ways true e refl)

  pub making_undone : (h : Name → Option Node) → ((q : Name) → h q ≡ between name rest None g q) → (q : Name) → h q ≡ f q
  making_undone h is q =
      is q ∙ ap (λ o. cond (is_parent q name && not (is_parent q rest)) None o) (k.made q) ∙ undo_bool (is_parent q name) (is_parent q rest) (f q) (k.missing q)

-- what the loop that looks for a file keeps
pub record IsLooking (f : Name → Option Node) (name rest : Name) : Type 0 where
  pub reach : Reaches rest name
  pub free : (q : Name) → is_parent q name ≡ true → is_parent q rest ≡ false → is_file (f q) ≡ false

module _ (f : Name → Option Node) (name rest : Name) (k : IsLooking f name rest) where
  pub looking_goes_on : (p : Name) → IsLast p rest → is_file (f p) ≡ false → IsLooking f name p
  looking_goes_on p last no' = record {
    reach = reach_up p rest last name k.reach;
    free = λ q a b. elim (cases_Bool (is_parent q rest)) [
      | inl e ↦ elim (parent_of_last p rest last q e) [ inl same ↦ ap (λ m. is_file (f m)) (sym same) ∙ no' | inr up ↦ absurd (both_ways _ b up) ]
      | inr e ↦ k.free q a e
    ];
  }

  pub looking_finds : (p : Name) → IsLast p rest → is_parent p name ≡ true
  looking_finds p last = reached_parent rest name k.reach p (last_is_parent p rest last)
