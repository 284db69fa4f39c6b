-- Records in rising sequence, and the last of a name among them.
use Rattle.std.proofs.Common.{◌≡◌, ℕ, ◌-◌, ◌<◌, ◌≤◌, Bool, true, false, List, [], ◌∷◌, ◌++◌, length, take, refl, sym, ap, subst, ◌∙◌, arith, ◌⊎◌, inl, inr}
use Rattle.std.specs.Prelude.{bytes_eq, cond, Contains, find, map, reverse, Option, None, Some, slice_get, unwrap_or}
use Rattle.std.specs.Cmp.{ranked}
use Rattle.std.specs.List.{AllByRecursion}
use Rattle.std.specs.List.Sorted.{IsStrictlySortedBy}
use Rattle.std.specs.Option.{option_or}
use Rattle.std.specs.Ordering.{nat_cmp}
use Rattle.std.specs.declared.cmp.Ordering.TheVariants.{Less}
use Rattle.std.proofs.lemmas.List.{reverse-append, take_more}
use Rattle.std.proofs.lemmas.List.Elements.{Contains-append_cases, Contains-append_left, Contains-append_right, Contains-push, Contains-push_cases}
use Rattle.std.proofs.lemmas.List.Folds.{find-append}
use Rattle.std.proofs.lemmas.Option.{get_or_from_slice_get, none-some, slice_get-get_or, slice_get_within}
use Rattle.std.proofs.Math.Seq.{take-length}
use Rattle.std.proofs.lemmas.Slice.Eq.{bytes_eq-Decides}
use Rattle.sync_record.specs.Records.{Name, FileRecord}
use Rattle.folder_core.specs.Announced.{last_of}
use Rattle.index_sender.specs.Pages.{last_sequence}

pub inside : {A : Type 0} (x y : A) → Some x ≡ Some y → x ≡ y
inside x y e = ap (λ o. unwrap_or o x) e

-- ---- elements

pub in-cons : {A : Type 0} (x : A) (xs : List A) (y : A) → Contains (x ∷ xs) y → (y ≡ x) ⊎ Contains xs y
in-cons x xs y i = by (Contains-append_cases (x ∷ []) xs y i)
  where
    alone : Contains [] y ⊎ (x ≡ y) → y ≡ x
    alone (inl none) = absurd (let below = none.1 in omega arith)
    alone (inr e) = sym e

    by : Contains (x ∷ []) y ⊎ Contains xs y → (y ≡ x) ⊎ Contains xs y
    by (inl one) = inl (alone (Contains-push_cases [] x y one))
    by (inr rest) = inr rest

pub in-first : {A : Type 0} (x : A) (xs : List A) → Contains (x ∷ xs) x
in-first x xs = Contains-append_left (x ∷ []) xs x (Contains-push [] x)

pub in-rest : {A : Type 0} (x : A) (xs : List A) (y : A) → Contains xs y → Contains (x ∷ xs) y
in-rest x xs y i = Contains-append_right (x ∷ []) xs y i

-- ---- the last sequence

abbrev pub Rise : List FileRecord → Type 0
Rise rs = IsStrictlySortedBy nat_cmp (map (λ r. r.sequence) rs)

pub above-all : (k : ℕ) (rs : List FileRecord) → AllByRecursion (λ j. nat_cmp k j ≡ Less) (map (λ r. r.sequence) rs) → (r : FileRecord) → Contains rs r → k < r.sequence
above-all k [] above r i = absurd (let below = i.1 in omega arith)
above-all k (x ∷ xs) above r i = by (above-all k xs above.1 r) (in-cons x xs r i)
  where
    by : (Contains xs r → k < r.sequence) → (r ≡ x) ⊎ Contains xs r → k < r.sequence
    by rest (inl e) = subst (λ (y : FileRecord). k < y.sequence) (sym e) (ranked k x.sequence Less (sym above.0))
    by rest (inr j) = rest j

-- what the last sequence is
pub record IsLast (k : ℕ) (rs : List FileRecord) (upto : ℕ) : Type 0 where
  pub reached : (upto ≡ k) ⊎ ((r : FileRecord) × Contains rs r × (r.sequence ≡ upto))
  pub above : (r : FileRecord) → Contains rs r → r.sequence ≤ upto

pub last-is : (k : ℕ) (rs : List FileRecord) → Rise rs → IsLast k rs (last_sequence k rs)
unfolding IsStrictlySortedBy
last-is k [] rise = record { reached = inl refl; above = λ r i. absurd (let below = i.1 in omega arith) }
last-is k (x ∷ xs) rise =
    let rest : IsLast x.sequence xs (last_sequence x.sequence xs) = last-is x.sequence xs rise.1 in record {
      reached = reach rest.reached;
      above = λ r i. by rest.reached rest.above r (in-cons x xs r i);
    }
  where
    reach : (last_sequence x.sequence xs ≡ x.sequence) ⊎ ((r : FileRecord) × Contains xs r × (r.sequence ≡ last_sequence x.sequence xs))
        → (last_sequence x.sequence xs ≡ k) ⊎ ((r : FileRecord) × Contains (x ∷ xs) r × (r.sequence ≡ last_sequence x.sequence xs))
    reach (inl e) = inr (x, in-first x xs, sym e)
    reach (inr l) = inr (l.0, in-rest x xs l.0 l.1, l.2)

    by : (last_sequence x.sequence xs ≡ x.sequence) ⊎ ((r : FileRecord) × Contains xs r × (r.sequence ≡ last_sequence x.sequence xs))
        → ((r : FileRecord) → Contains xs r → r.sequence ≤ last_sequence x.sequence xs) → (r : FileRecord) → (r ≡ x) ⊎ Contains xs r → r.sequence ≤ last_sequence x.sequence xs
    by (inl e) above r (inl s) = let same : r.sequence ≡ x.sequence = ap (λ (y : FileRecord). y.sequence) s in omega arith
    by (inr l) above r (inl s) =
        let same : r.sequence ≡ x.sequence = ap (λ (y : FileRecord). y.sequence) s in
        let lt : x.sequence < l.0.sequence = above-all x.sequence xs rise.0 l.0 l.1 in
        let at : l.0.sequence ≡ last_sequence x.sequence xs = l.2 in
        omega arith
    by reached above r (inr i) = above r i

-- ---- the last record of a name

last-cons : (n : Name) (x : FileRecord) (xs : List FileRecord) → last_of n (x ∷ xs) ≡ option_or (last_of n xs) (cond (bytes_eq x.name n) (Some x) None)
last-cons n x xs = ap (find (λ r. bytes_eq r.name n)) (reverse-append (x ∷ []) xs) ∙ find-append (λ r. bytes_eq r.name n) (reverse xs) (x ∷ [])

pub last-in : (n : Name) (rs : List FileRecord) (r : FileRecord) → last_of n rs ≡ Some r → Contains rs r × (r.name ≡ n)
last-in n [] r e = absurd (none-some r e)
last-in n (x ∷ xs) r e = by (last-in n xs r) (last_of n xs) refl (bytes_eq x.name n) refl (sym (last-cons n x xs) ∙ e)
  where
    by : (last_of n xs ≡ Some r → Contains xs r × (r.name ≡ n)) → (o : Option FileRecord) → last_of n xs ≡ o → (b : Bool) → bytes_eq x.name n ≡ b
        → option_or o (cond b (Some x) None) ≡ Some r → Contains (x ∷ xs) r × (r.name ≡ n)
    by rest (Some y) is b test f = let found = rest (is ∙ f) in (in-rest x xs r found.0, found.1)
    by rest None is true test f =
        (subst (Contains (x ∷ xs)) (inside x r f) (in-first x xs), ap (λ (y : FileRecord). y.name) (sym (inside x r f)) ∙ (bytes_eq-Decides x.name n).0 test)
    by rest None is false test f = absurd (none-some r f)

pub last-has : (n : Name) (rs : List FileRecord) (r : FileRecord) → Contains rs r → r.name ≡ n → (q : FileRecord) × (last_of n rs ≡ Some q)
last-has n [] r i e = absurd (let below = i.1 in omega arith)
last-has n (x ∷ xs) r i e = by (λ j. last-has n xs r j e) (in-cons x xs r i)
  where
    or-some : (o : Option FileRecord) → last_of n xs ≡ o → (c : Option FileRecord) → c ≡ cond (bytes_eq x.name n) (Some x) None → (q : FileRecord) × (option_or o c ≡ Some q) → (q : FileRecord) × (last_of n (x ∷ xs) ≡ Some q)
    or-some o is c made found = (found.0, last-cons n x xs ∙ ap (λ p. option_or p (cond (bytes_eq x.name n) (Some x) None)) is ∙ ap (option_or o) (sym made) ∙ found.1)

    here : r ≡ x → (o : Option FileRecord) → last_of n xs ≡ o → (q : FileRecord) × (last_of n (x ∷ xs) ≡ Some q)
    here s None is =
        let test : bytes_eq x.name n ≡ true = (bytes_eq-Decides x.name n).1 (ap (λ (y : FileRecord). y.name) (sym s) ∙ e) in
        or-some None is (Some x) (sym (ap (λ b. cond b (Some x) None) test)) (x, refl)
    here s (Some y) is = or-some (Some y) is (cond (bytes_eq x.name n) (Some x) None) refl (y, refl)

    by : (Contains xs r → (q : FileRecord) × (last_of n xs ≡ Some q)) → (r ≡ x) ⊎ Contains xs r → (q : FileRecord) × (last_of n (x ∷ xs) ≡ Some q)
    by rest (inl s) = here s (last_of n xs) refl
    by rest (inr j) = let found = rest j in or-some (Some found.0) found.1 (cond (bytes_eq x.name n) (Some x) None) refl (found.0, refl)

-- ---- the last record of a list that was read

last-front : (k : ℕ) (front : List FileRecord) (r : FileRecord) → last_sequence k (front ++ r ∷ []) ≡ r.sequence
last-front k [] r = refl
last-front k (x ∷ front) r = last-front x.sequence front r

pub last-read : (k : ℕ) (rs : List FileRecord) (r : FileRecord) → Some r ≡ slice_get rs (length rs - 1) → last_sequence k rs ≡ r.sequence
last-read k rs r there =
    let within = slice_get_within rs (length rs - 1) r (sym there) in
    let all : take (length rs) rs ≡ rs = take-length rs in
    let divided : rs ≡ take (length rs - 1) rs ++ r ∷ [] =
    sym all ∙ ap (λ n. take n rs) (omega arith) ∙ take_more rs (length rs - 1) r within ∙ ap (λ x. take (length rs - 1) rs ++ x ∷ []) (get_or_from_slice_get rs (length rs - 1) r r (sym there)) in
    ap (last_sequence k) divided ∙ last-front k (take (length rs - 1) rs) r

pub none-read : (k : ℕ) (rs : List FileRecord) → None ≡ slice_get rs (length rs - 1) → last_sequence k rs ≡ k
none-read k [] none = refl
none-read k (r ∷ rs) none = absurd (none-some _ (none ∙ slice_get-get_or (r ∷ rs) (length (r ∷ rs) - 1) r (omega arith)))
