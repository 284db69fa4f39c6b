-- The first step of a walk over two vectors, and the walk after it.
use Rattle.std.proofs.Common.{◌<◌, ◌≤◌, ◌≡◌, ℕ, Bool, true, false, List, [], ◌∷◌, ◌++◌, append-nil, refl, sym, ap, subst, ◌∙◌, arith, inl, inr}
use Rattle.std.specs.Prelude.{cond, ◌&&◌, nat_le, min, max, T, Some, None, map, ◌⊎◌, nat_eq, slice_get}
use Rattle.std.specs.Bool.{passes}
use Rattle.std.specs.Ordering.{nat_cmp, eq_by_cmp, is_eq, is_lt, ordering_reverse}
use Rattle.std.specs.Cmp.{nat_cmp_total, tied_itself}
use Rattle.std.specs.FinMap.Entries.{below_all}
use Rattle.std.specs.List.{list_all}
use Rattle.std.specs.declared.cmp.Ordering.TheVariants.{Less}
use Rattle.std.proofs.lemmas.Bool.{true≢false, and_parts, and_from, false_from_ne_true, ltb-true, lt-ltb, eqb-true, eqb-false, eq-eqb, cases_lt, le-leb, leb-true}
use Rattle.sync_version.specs.declared.walk.Step.{Step}
use Rattle.sync_version.specs.Versions.{Vector, counter, IsCanonical}
use Rattle.sync_version.specs.Computed.{covers, relation, relation_by, merge}
use Rattle.sync_version.specs.Walks.{side_by_side, past, first_at}
use Rattle.sync_version.proofs.Lists.{is_true, In, all_in, below_in, in_below, tied, with_parts, inside, none_some, in_all, less_of}
use Rattle.sync_version.proofs.Vectors.{positive, missing, counter-cons, counter-merge, canonical-merge, same_vector, counter_of, zero_or_in, covers_at, at_covers}

-- no id of the vector is below this one
abbrev pub IsFront : ℕ → Vector → Type 0
IsFront id [] = Unit {0}
IsFront id (c ∷ cs) = id ≤ c.0

-- the id is the least of both vectors
abbrev pub IsFirst : ℕ → Vector → Vector → Type 0
IsFirst id a b = IsFront id a × IsFront id b × (0 < max (first_at id a) (first_at id b))

-- the first value is the counter at the id, and the rest has the counters after it
abbrev pub IsSplit : ℕ → Vector → ℕ → Vector → Type 0
IsSplit id v first rest = IsCanonical rest × T (below_all nat_cmp id rest) × ((q : ℕ) → counter v q ≡ cond (eq_by_cmp nat_cmp q id) first (counter rest q))

below_of : (x : ℕ) (y : ℕ) (cs : Vector) → x < y → T (below_all nat_cmp y cs) → T (below_all nat_cmp x cs)
below_of x y cs h b = in_below x cs (λ e i. nat_cmp_total.trans x y e.0 (less_of x y h) (below_in y cs b e i))

split_here : (c : ℕ × ℕ) (cs : Vector) → IsCanonical (c ∷ cs) → (id : ℕ) → id ≡ c.0 → IsSplit id (c ∷ cs) c.1 cs
split_here c cs p id e =
    let sorted = and_parts _ _ (and_parts _ _ p).0 in (
      and_from _ _ sorted.1 (and_parts _ _ (and_parts _ _ p).1).1,
      subst (λ k. T (below_all nat_cmp k cs)) (sym e) (passes _ sorted.0),
      λ q. counter-cons c cs q ∙ ap (λ k. cond (eq_by_cmp nat_cmp q k) c.1 (counter cs q)) (sym e),
    )

zero_there : (b : Bool) (k n : ℕ) → (b ≡ true → n ≡ 0) → n ≡ cond b 0 n
zero_there true k n e = e refl
zero_there false k n e = refl

split_later : (c : ℕ × ℕ) (cs : Vector) → IsCanonical (c ∷ cs) → (id : ℕ) → id < c.0 → IsSplit id (c ∷ cs) 0 (c ∷ cs)
split_later c cs p id h =
    let sorted = and_parts _ _ (and_parts _ _ p).0 in
    let below : T (below_all nat_cmp id (c ∷ cs)) = with_parts _ _ (subst (λ r. T (is_lt r)) (sym (less_of id c.0 h)) tt) (below_of id c.0 cs h (passes _ sorted.0)) in
    (p, below, λ q. zero_there (eq_by_cmp nat_cmp q id) 0 (counter (c ∷ cs) q) (λ t. ap (counter (c ∷ cs)) (tied q id t) ∙ missing id (c ∷ cs) below))

pub split_is : (v : Vector) → IsCanonical v → (id : ℕ) → IsFront id v → IsSplit id v (first_at id v) (past id v)
split_is [] p id f = (p, tt, λ q. zero_there (eq_by_cmp nat_cmp q id) 0 0 (λ t. refl))
split_is (c ∷ cs) p id f =
    elim (nat_eq c.0 id) as (λ b. nat_eq c.0 id ≡ b → IsSplit id (c ∷ cs) (cond b c.1 0) (cond b cs (c ∷ cs))) [
      | true ↦ λ t. split_here c cs p id (sym (eqb-true c.0 id t))
      | false ↦ λ t. let other = eqb-false c.0 id t in split_later c cs p id (omega arith)
    ] refl

map_same : {A B : Type 0} (f g : A → B) (xs : List A) → ((x : A) → In x xs → f x ≡ g x) → map f xs ≡ map g xs
map_same f g [] each = refl
map_same f g (x ∷ xs) each = λ i. each x (inl refl) i ∷ map_same f g xs (λ y j. each y (inr j)) i

-- what is above both is above their merge
below-merge : (id : ℕ) (a b : Vector) → IsCanonical a → IsCanonical b → T (below_all nat_cmp id a) → T (below_all nat_cmp id b) → T (below_all nat_cmp id (merge a b))
below-merge id a b p q f g = in_below id (merge a b) (λ x i.
    let canonical : IsCanonical (merge a b) = canonical-merge a b p (and_parts _ _ q).1 in
    let above : 0 < x.1 = ltb-true 0 x.1 (all_in positive (merge a b) (and_parts _ _ canonical).1 x i) in
    let value : counter (merge a b) x.0 ≡ x.1 = counter_of (merge a b) canonical x i in
    let greater = counter-merge a b x.0 (and_parts _ _ q).0 in
    among x above value greater (zero_or_in a x.0) (zero_or_in b x.0))
  where
    among : (x : ℕ × ℕ) → 0 < x.1 → counter (merge a b) x.0 ≡ x.1 → counter (merge a b) x.0 ≡ max (counter a x.0) (counter b x.0)
        → (counter a x.0 ≡ 0) ⊎ In (x.0, counter a x.0) a → (counter b x.0 ≡ 0) ⊎ In (x.0, counter b x.0) b → nat_cmp id x.0 ≡ Less
    among x above value greater (inr i) r = below_in id a f (x.0, counter a x.0) i
    among x above value greater (inl z) (inr i) = below_in id b g (x.0, counter b x.0) i
    among x above value greater (inl z) (inl w) = absurd (omega arith)

merge_first : (a b more_a more_b : Vector) (id x y : ℕ) → IsCanonical a → IsCanonical b → IsSplit id a x more_a → IsSplit id b y more_b → 0 < max x y
    → merge a b ≡ (id, max x y) ∷ merge more_a more_b
merge_first a b more_a more_b id x y p q s t h =
    let rest : IsCanonical (merge more_a more_b) = canonical-merge more_a more_b s.0 (and_parts _ _ t.0).1 in
    let below = below-merge id more_a more_b s.0 t.0 s.1 t.1 in
    same_vector (merge a b) ((id, max x y) ∷ merge more_a more_b)
    (canonical-merge a b p (and_parts _ _ q).1)
    (and_from _ _ (and_from _ _ (is_true _ below) (and_parts _ _ rest).0) (and_from _ _ (lt-ltb 0 (max x y) h) (and_parts _ _ rest).1))
    (λ k.
    counter-merge a b k (and_parts _ _ q).0
    ∙ (λ i. max (s.2 k i) (t.2 k i))
    ∙ of_both (eq_by_cmp nat_cmp k id) x y (counter more_a k) (counter more_b k)
    ∙ ap (cond (eq_by_cmp nat_cmp k id) (max x y)) (sym (counter-merge more_a more_b k (and_parts _ _ t.0).0))
    ∙ sym (counter-cons (id, max x y) (merge more_a more_b) k))
  where
    of_both : (c : Bool) (x y m n : ℕ) → max (cond c x m) (cond c y n) ≡ cond c (max x y) (max m n)
    of_both true x y m n = refl
    of_both false x y m n = refl

at_first : (v rest : Vector) (id x : ℕ) → IsSplit id v x rest → counter v id ≡ x
at_first v rest id x s = s.2 id ∙ ap (λ r. cond (is_eq r) x (counter rest id)) (tied_itself nat_cmp_total id)

after_first : (v rest : Vector) (id x q : ℕ) → IsSplit id v x rest → nat_cmp id q ≡ Less → counter v q ≡ counter rest q
after_first v rest id x q s less = s.2 q ∙ ap (λ r. cond (is_eq r) x (counter rest q)) (nat_cmp_total.antisymm q id ∙ ap ordering_reverse less)

abbrev step : Vector → Vector → ℕ × ℕ → Step
step v w c = record { id = c.0; ours = counter v c.0; theirs = counter w c.0 }

side_by_side_first : (a b more_a more_b : Vector) (id x y : ℕ) → IsCanonical a → IsCanonical b → IsSplit id a x more_a → IsSplit id b y more_b → 0 < max x y
    → side_by_side a b ≡ record { id = id; ours = x; theirs = y } ∷ side_by_side more_a more_b
side_by_side_first a b more_a more_b id x y p q s t h =
    ap (map (step a b)) (merge_first a b more_a more_b id x y p q s t h)
    ∙ (λ i. record { id = id; ours = at_first a more_a id x s i; theirs = at_first b more_b id y t i }
    ∷ map_same (step a b) (step more_a more_b) (merge more_a more_b) (λ c j.
    let less = below_in id (merge more_a more_b) (below-merge id more_a more_b s.0 t.0 s.1 t.1) c j in
    λ k. record { id = c.0; ours = after_first a more_a id x c.0 s less k; theirs = after_first b more_b id y c.0 t less k }) i)

pub step_at : (a b : Vector) (id : ℕ) → IsCanonical a → IsCanonical b → IsFirst id a b
    → side_by_side a b ≡ record { id = id; ours = first_at id a; theirs = first_at id b } ∷ side_by_side (past id a) (past id b)
step_at a b id p q f =
    side_by_side_first a b (past id a) (past id b) id (first_at id a) (first_at id b) p q
    (split_is a p id f.0) (split_is b q id f.1) f.2

-- ---- which id is the first

front_of : (v : Vector) (c : ℕ × ℕ) (id : ℕ) → Some c ≡ slice_get v 0 → id ≤ c.0 → IsFront id v
front_of [] c id e h = tt
front_of (d ∷ ds) c id e h = let same : c ≡ d = inside c d e in subst (λ (x : ℕ × ℕ). id ≤ x.0) same h

no_front : (v : Vector) (id : ℕ) → None ≡ slice_get v 0 → IsFront id v
no_front [] id e = tt
no_front (d ∷ ds) id e = absurd (none_some d e)

positive_first : (v : Vector) (c : ℕ × ℕ) (id : ℕ) → IsCanonical v → Some c ≡ slice_get v 0 → id ≡ c.0 → 0 < first_at id v
positive_first [] c id p e h = absurd (none_some c (sym e))
positive_first (d ∷ ds) c id p e h =
    let same : c ≡ d = inside c d e in
    let above : 0 < d.1 = ltb-true 0 d.1 (and_parts _ _ (and_parts _ _ p).1).0 in
    subst (λ b. 0 < cond b d.1 0) (sym (eq-eqb d.0 id (sym (h ∙ ap (λ (x : ℕ × ℕ). x.0) same)))) above

pub first_is_ours : (a b : Vector) (c : ℕ × ℕ) (id : ℕ) → IsCanonical a → Some c ≡ slice_get a 0 → None ≡ slice_get b 0 → id ≡ c.0 → IsFirst id a b
first_is_ours a b c id p e n h =
    let above = positive_first a c id p e h in
    (front_of a c id e (omega arith), no_front b id n, omega arith)

pub first_is_theirs : (a b : Vector) (c : ℕ × ℕ) (id : ℕ) → IsCanonical b → None ≡ slice_get a 0 → Some c ≡ slice_get b 0 → id ≡ c.0 → IsFirst id a b
first_is_theirs a b c id p n e h =
    let above = positive_first b c id p e h in
    (no_front a id n, front_of b c id e (omega arith), omega arith)

pub first_is_least : (a b : Vector) (c d : ℕ × ℕ) (id : ℕ) → IsCanonical a → IsCanonical b → Some c ≡ slice_get a 0 → Some d ≡ slice_get b 0 → id ≡ min c.0 d.0 → IsFirst id a b
first_is_least a b c d id p q e f h =
    (front_of a c id e (omega arith), front_of b d id f (omega arith), above (cases_lt c.0 d.0))
  where
    above : (c.0 < d.0) ⊎ (d.0 ≤ c.0) → 0 < max (first_at id a) (first_at id b)
    above (inl le) = let more = positive_first a c id p e (omega arith) in omega arith
    above (inr le) = let more = positive_first b d id q f (omega arith) in omega arith

-- ---- what the steps of a walk tell

list_all-map : {A B : Type 0} (p : B → Bool) (f : A → B) (xs : List A) → list_all p (map f xs) ≡ list_all (λ x. p (f x)) xs
list_all-map p f [] = refl
list_all-map p f (x ∷ xs) = ap (λ b. p (f x) && b) (list_all-map p f xs)

same_test : (b c : Bool) → (b ≡ true → c ≡ true) → (c ≡ true → b ≡ true) → b ≡ c
same_test true c f g = sym (f refl)
same_test false c f g = sym (false_from_ne_true c (λ e. true≢false (sym (g e))))

-- at the ids of a vector that has every id of b the test says whether a covers b
covers_everywhere : (a b v : Vector) → ((id : ℕ) → counter b id ≤ counter v id)
    → covers a b ≡ list_all (λ c. nat_le (counter b c.0) (counter a c.0)) v
covers_everywhere a b v each = same_test _ _
    (λ e. in_all test v (λ c i. le-leb _ _ (covers_at a b e c.0)))
    (λ e. at_covers a b (λ id. there e id (zero_or_in v id)))
  where
    test : ℕ × ℕ → Bool
    test c = nat_le (counter b c.0) (counter a c.0)

    there : list_all (λ c. nat_le (counter b c.0) (counter a c.0)) v ≡ true → (id : ℕ) → (counter v id ≡ 0) ⊎ In (id, counter v id) v → counter b id ≤ counter a id
    there e id (inl z) = let le = each id in omega arith
    there e id (inr i) = leb-true _ _ (all_in (λ c. nat_le (counter b c.0) (counter a c.0)) v e (id, counter v id) i)

pub covers_steps : (a b : Vector) → IsCanonical a → IsCanonical b → covers a b ≡ list_all (λ s. nat_le s.theirs s.ours) (side_by_side a b)
covers_steps a b p q =
    covers_everywhere a b (merge a b) (λ id. let e = counter-merge a b id (and_parts _ _ q).0 in omega arith)
    ∙ sym (list_all-map (λ s. nat_le s.theirs s.ours) (step a b) (merge a b))

pub covered_steps : (a b : Vector) → IsCanonical a → IsCanonical b → covers b a ≡ list_all (λ s. nat_le s.ours s.theirs) (side_by_side a b)
covered_steps a b p q =
    covers_everywhere b a (merge a b) (λ id. let e = counter-merge a b id (and_parts _ _ q).0 in omega arith)
    ∙ sym (list_all-map (λ s. nat_le s.ours s.theirs) (step a b) (merge a b))

map_back : {A B : Type 0} (g : B → A) (f : A → B) (xs : List A) → ((x : A) → In x xs → g (f x) ≡ x) → map g (map f xs) ≡ xs
map_back g f [] each = refl
map_back g f (x ∷ xs) each = λ i. each x (inl refl) i ∷ map_back g f xs (λ y j. each y (inr j)) i

pub merge_steps : (a b : Vector) → IsCanonical a → IsCanonical b → merge a b ≡ map (λ s. (s.id, max s.ours s.theirs)) (side_by_side a b)
merge_steps a b p q =
    let canonical : IsCanonical (merge a b) = canonical-merge a b p (and_parts _ _ q).1 in
    sym (map_back (λ s. (s.id, max s.ours s.theirs)) (step a b) (merge a b) (λ c i.
    λ k. (c.0, (sym (counter-merge a b c.0 (and_parts _ _ q).0) ∙ counter_of (merge a b) canonical c i) k)))

-- ---- a walk that has ended

walked : (xs ys rest : List Step) → xs ≡ ys ++ rest → rest ≡ [] → ys ≡ xs
walked xs ys rest e none = sym (e ∙ ap (λ zs. ys ++ zs) none ∙ append-nil ys)

pub relation_walked : (a b : Vector) (steps rest : List Step) (x y : Bool) → IsCanonical a → IsCanonical b
    → x ≡ list_all (λ s. nat_le s.theirs s.ours) steps → y ≡ list_all (λ s. nat_le s.ours s.theirs) steps
    → side_by_side a b ≡ steps ++ rest → rest ≡ [] → relation_by x y ≡ relation a b
relation_walked a b steps rest x y p q e f split none =
    let whole = walked (side_by_side a b) steps rest split none in
    λ i. relation_by
    ((e ∙ ap (list_all (λ s. nat_le s.theirs s.ours)) whole ∙ sym (covers_steps a b p q)) i)
    ((f ∙ ap (list_all (λ s. nat_le s.ours s.theirs)) whole ∙ sym (covered_steps a b p q)) i)

pub merge_walked : (a b made : Vector) (steps rest : List Step) → IsCanonical a → IsCanonical b
    → made ≡ map (λ s. (s.id, max s.ours s.theirs)) steps → side_by_side a b ≡ steps ++ rest → rest ≡ [] → made ≡ merge a b
merge_walked a b made steps rest p q e split none =
    e ∙ ap (map (λ s. (s.id, max s.ours s.theirs))) (walked (side_by_side a b) steps rest split none) ∙ sym (merge_steps a b p q)
