-- What a table finds, and what a look tells.
use Rattle.std.proofs.Common.{◌≡◌, ℕ, zero, suc, ◌+◌, ◌<◌, ◌≤◌, List, [], ◌∷◌, ◌++◌, length, map, take, drop, get_or, Bool, true, false, cond, append-nil, refl, sym, ap, subst, ◌∙◌, ⊎_elim, arith, le_refl, pos}
use Rattle.std.specs.Prelude.{Any, Contains, IfOk, Ok, Err, Result, Option, Some, None, option_map, bytes_eq, filter, find}
use Rattle.std.specs.Cmp.Lexicographic.{nat_list_cmp_total}
use Rattle.std.specs.List.Sorted.{IsNonDecreasingBy, IsPartitionPoint, IsStrictlySortedBy}
use Rattle.std.specs.Ordering.{is_eq, ordering_index, ordering_reverse}
use Rattle.std.specs.declared.cmp.Ordering.{Ordering}
use Rattle.std.specs.declared.cmp.Ordering.TheVariants.{Less, Equal, Greater}
use Rattle.std.proofs.lemmas.Bool.{cases_lt}
use Rattle.std.proofs.lemmas.List.{drop-append-le, get_or-map, length-append, length-drop, length-map, map-append, take-append-le, take_all}
use Rattle.std.proofs.lemmas.List.Elements.{All-head, All-push, All-tail, All-weaker, Contains-get_or, filter_more}
use Rattle.std.proofs.lemmas.Map.Keys.{Less-from_sorted}
use Rattle.std.proofs.lemmas.Map.Lookups.{exact_bytes}
use Rattle.std.proofs.lemmas.Map.Text.{is_eq-slice_cmp}
use Rattle.std.proofs.lemmas.Simd.{map-map}
use Rattle.std.proofs.Math.Seq.{drop-append_seam}
use Rattle.std.specs.String.{string_bytes}
use Rattle.folder_look.specs.declared.facts.Entry.{Entry}
use Rattle.folder_look.specs.declared.facts.EntryKind.TheVariants.{File}
use Rattle.folder_look.specs.declared.facts.Facts.{Facts}
use Rattle.folder_look.specs.declared.table.Row.{Row}
use Rattle.folder_look.proofs.OrderLemmas.{order}
use Rattle.folder_look.specs.Tables.{ArePacked, IsOf, Named, facts_of, name_of, named, row_facts, view_of}

-- what a lesser name is to another one, a greater one is too or more
rank-le : (a b x : List ℕ) → order a b ≡ Less → ordering_index (order a x) ≤ ordering_index (order b x)
rank-le a b x less = by (order b x) refl
  where
    by : (o : Ordering) → order b x ≡ o → ordering_index (order a x) ≤ ordering_index (order b x)
    by Less e =
        let first : order a x ≡ Less = nat_list_cmp_total.trans a b x less e in
        rw first (omega arith)
    by Equal e =
        let first : order a x ≡ Less = ap (order a) (sym (exact_bytes b x e)) ∙ less in
        rw first (omega arith)
    by Greater e = rw e (elim (order a x) as (λ o. ordering_index o ≤ 2) [ Less ↦ omega arith | Equal ↦ omega arith | Greater ↦ omega arith ])

pub itself : (x : List ℕ) → order x x ≡ Equal
itself x = by (order x x) (nat_list_cmp_total.antisymm x x)
  where
    by : (o : Ordering) → o ≡ ordering_reverse o → o ≡ Equal
    by Less e = absurd (cc)
    by Equal e = refl
    by Greater e = absurd (cc)

sorted-tail : (n : List ℕ) (ns : List (List ℕ)) → IsStrictlySortedBy order (n ∷ ns) → IsStrictlySortedBy order ns
unfolding IsStrictlySortedBy
sorted-tail n ns sorted = sorted.1

module _ {X : Type 0} (f : X → List ℕ) (x : List ℕ) where
  -- names in order rank by another name in order
  sorted-ranks : (xs : List X) → IsStrictlySortedBy order (map f xs) → IsNonDecreasingBy (λ y. ordering_index (order (f y) x)) xs
  sorted-ranks xs sorted i j d le lt =
      let within : j < length (map f xs) = omega (arith, length-map xs f) in
      let at_i : get_or (map f xs) i (f d) ≡ f (get_or xs i d) = get_or-map f xs i d (f d) (omega arith) in
      let at_j : get_or (map f xs) j (f d) ≡ f (get_or xs j d) = get_or-map f xs j d (f d) lt in
      ⊎_elim
      (λ less. rank-le (f (get_or xs i d)) (f (get_or xs j d)) x
      (subst (λ a. order a (f (get_or xs j d)) ≡ Less) at_i (subst (λ b. order (get_or (map f xs) i (f d)) b ≡ Less) at_j (Less-from_sorted order (map f xs) i j (f d) sorted less within))))
      (λ more. let same : i ≡ j = omega arith in
      subst (λ k. ordering_index (order (f (get_or xs i d)) x) ≤ ordering_index (order (f (get_or xs k d)) x)) same (le_refl _))
      (cases_lt i j)

  module _ (g : X → Facts) where
    abbrev look : List X → Option Facts
    look xs = facts_of x (map (λ y. (f y, g y)) xs)

    look-first : (y : X) (ys : List X) → bytes_eq (f y) x ≡ true → look (y ∷ ys) ≡ Some (g y)
    look-first y ys e = ap (λ b. option_map (λ (z : Named). z.1) (cond b (Some (f y, g y)) (find (λ (z : Named). bytes_eq z.0 x) (map (λ y. (f y, g y)) ys)))) e

    look-later : (y : X) (ys : List X) → bytes_eq (f y) x ≡ false → look (y ∷ ys) ≡ look ys
    look-later y ys e = ap (λ b. option_map (λ (z : Named). z.1) (cond b (Some (f y, g y)) (find (λ (z : Named). bytes_eq z.0 x) (map (λ y. (f y, g y)) ys)))) e

    -- what a search finds is what is at the name
    pub look-found : (xs : List X) (i : ℕ) (d : X) → i < length xs → order (f (get_or xs i d)) x ≡ Equal → IsStrictlySortedBy order (map f xs)
        → look xs ≡ Some (g (get_or xs i d))
    look-found [] i d lt e sorted = absurd (omega arith)
    look-found (y ∷ ys) zero d lt e sorted = look-first y ys (sym (is_eq-slice_cmp (f y) x) ∙ ap is_eq e)
    look-found (y ∷ ys) (suc i) d lt e sorted =
        let within : suc i < length (map f (y ∷ ys)) = omega (arith, length-map (y ∷ ys) f) in
        let at : get_or (map f (y ∷ ys)) (suc i) (f d) ≡ x = get_or-map f (y ∷ ys) (suc i) d (f d) lt ∙ exact_bytes _ x e in
        let less : order (f y) x ≡ Less = subst (λ b. order (f y) b ≡ Less) at (Less-from_sorted order (map f (y ∷ ys)) 0 (suc i) (f d) sorted (omega arith) within) in
        look-later y ys (sym (is_eq-slice_cmp (f y) x) ∙ ap is_eq less) ∙ look-found ys i d (omega arith) e (sorted-tail (f y) (map f ys) sorted)

    look-none : (xs : List X) → ((k : ℕ) (d : X) → k < length xs → bytes_eq (f (get_or xs k d)) x ≡ false) → look xs ≡ None
    look-none [] h = refl
    look-none (y ∷ ys) h = look-later y ys (h 0 y (omega arith)) ∙ look-none ys (λ k d lt. h (suc k) d (omega arith))

    -- where a search finds nothing, nothing is there
    pub look-missed : (xs : List X) (i : ℕ) → (IsNonDecreasingBy (λ y. ordering_index (order (f y) x)) xs → IsPartitionPoint (λ y. order (f y) x ≡ Less) (λ y. order (f y) x ≡ Greater) xs i)
        → IsStrictlySortedBy order (map f xs) → look xs ≡ None
    look-missed xs i parted sorted =
        let parts = parted (sorted-ranks xs sorted) in
        look-none xs (λ k d lt. sym (is_eq-slice_cmp (f (get_or xs k d)) x)
        ∙ ⊎_elim (λ below. ap is_eq (parts.0 k d (omega arith) below)) (λ above. ap is_eq (parts.1 k d above lt)) (cases_lt k i))

-- equal bytes are the same
pub same_bytes : (a b : List ℕ) → bytes_eq a b ≡ true → a ≡ b
same_bytes a b e = exact_bytes a b (by (order a b) (is_eq-slice_cmp a b ∙ e))
  where
    by : (o : Ordering) → is_eq o ≡ true → o ≡ Equal
    by Less e = absurd (cc)
    by Equal e = refl
    by Greater e = absurd (cc)

-- ---- what is told

module _ (p : Named → Bool) (es : List Named) (i : ℕ) (e : Named) (lt : i < length es) (is : get_or es i e ≡ e) where
  more : filter p (take (i + 1) es) ≡ filter p (take i es) ++ cond (p e) (e ∷ []) []
  more = filter_more p es i e lt ∙ ap (λ (x : Named). filter p (take i es) ++ cond (p x) (x ∷ []) []) is

  -- an entry that is told
  pub told-more : (before told : List (List ℕ)) → told ≡ before ++ map (λ (x : Named). x.0) (filter p (take i es)) → p e ≡ true
      → told ++ e.0 ∷ [] ≡ before ++ map (λ (x : Named). x.0) (filter p (take (i + 1) es))
  told-more before told so passes =
      let now : filter p (take (i + 1) es) ≡ filter p (take i es) ++ e ∷ [] = more ∙ ap (λ b. filter p (take i es) ++ cond b (e ∷ []) []) passes in
      let names = map-append (λ (x : Named). x.0) (filter p (take i es)) (e ∷ []) in
      ap (λ t. t ++ e.0 ∷ []) so ∙ together before (map (λ (x : Named). x.0) (filter p (take i es))) (e.0 ∷ []) ∙ ap (λ t. before ++ t) (sym names) ∙ ap (λ t. before ++ map (λ (x : Named). x.0) t) (sym now)
    where
      together : (a b c : List (List ℕ)) → (a ++ b) ++ c ≡ a ++ (b ++ c)
      together [] b c = refl
      together (x ∷ a) b c = ap (λ t. x ∷ t) (together a b c)

  -- one that is not
  pub told-same : (before told : List (List ℕ)) → told ≡ before ++ map (λ (x : Named). x.0) (filter p (take i es)) → p e ≡ false
      → told ≡ before ++ map (λ (x : Named). x.0) (filter p (take (i + 1) es))
  told-same before told so fails =
      let now : filter p (take (i + 1) es) ≡ filter p (take i es) = more ∙ ap (λ b. filter p (take i es) ++ cond b (e ∷ []) []) fails ∙ append-nil _ in
      so ∙ ap (λ t. before ++ map (λ (x : Named). x.0) t) (sym now)

-- ---- the rows of a table

-- what a loop takes where there is no row
abbrev pub no-row : Row
no-row = record { start = 0; len = 0; kind = File; size = 0; modified = pos 0; changed = pos 0; inode = 0 }

-- the entry of a row
pub row-entry : (names : List ℕ) (rows : List Row) (view : List Named) (i : ℕ) (d : Row) (n : List ℕ) (f : Facts) → map (named names) rows ≡ view → i < length rows
    → n ≡ name_of names (get_or rows i d) → f ≡ row_facts (get_or rows i d) → get_or view i (n, f) ≡ (n, f)
row-entry names rows view i d n f same lt name facts =
    subst (λ v. get_or v i (n, f) ≡ (n, f)) same (get_or-map (named names) rows i d (n, f) lt ∙ (λ k. (sym name k, sym facts k)))

pub row-within : (names : List ℕ) (rows : List Row) (view : List Named) (i : ℕ) → map (named names) rows ≡ view → i < length rows → i < length view
row-within names rows view i same lt = omega (arith, length-map rows (named names), ap length same)

named-stays : (names added : List ℕ) (row : Row) → row.start + row.len ≤ length names → named (names ++ added) row ≡ named names row
named-stays names added row within =
    let back : drop row.start (names ++ added) ≡ drop row.start names ++ added = drop-append-le row.start names added (omega arith) in
    let front : take row.len (drop row.start names ++ added) ≡ take row.len (drop row.start names) = take-append-le row.len (drop row.start names) added (omega (arith, length-drop {A = ℕ})) in
    ap (λ (n : List ℕ). (n, row_facts row)) (ap (take row.len) back ∙ front)

all-stay : (names added : List ℕ) (rows : List Row) → ArePacked names rows → map (named (names ++ added)) rows ≡ map (named names) rows
all-stay names added [] h = refl
all-stay names added (r ∷ rows) h =
    let first = named-stays names added r (All-head (λ (q : Row). q.start + q.len ≤ length names) r rows h) in
    let rest = all-stay names added rows (All-tail (λ (q : Row). q.start + q.len ≤ length names) r rows h) in
    λ i. first i ∷ rest i

-- the name that was added last
pub added-name : (names name : List ℕ) (row : Row) → row.start ≡ length names → row.len ≡ length name → name_of (names ++ name) row ≡ name
added-name names name row start len =
    ap (λ s. take row.len (drop s (names ++ name))) start ∙ ap (take row.len) (drop-append_seam names name) ∙ take_all row.len name (omega arith)

pub added-row : (names name : List ℕ) (rows : List Row) (row : Row) (e : Entry) → ArePacked names rows → named (names ++ name) row ≡ view_of e
    → map (named (names ++ name)) (rows ++ row ∷ []) ≡ map (named names) rows ++ view_of e ∷ []
added-row names name rows row e packed is =
    map-append (named (names ++ name)) rows (row ∷ []) ∙ ap (λ t. t ++ named (names ++ name) row ∷ []) (all-stay names name rows packed)
    ∙ ap (λ t. map (named names) rows ++ t ∷ []) is

pub packed-more : (names name : List ℕ) (rows : List Row) (row : Row) → ArePacked names rows → row.start + row.len ≤ length (names ++ name)
    → ArePacked (names ++ name) (rows ++ row ∷ [])
packed-more names name rows row packed last =
    All-push (λ (q : Row). q.start + q.len ≤ length (names ++ name)) rows row
    (All-weaker (λ (q : Row). q.start + q.len ≤ length names) (λ (q : Row). q.start + q.len ≤ length (names ++ name)) (λ q h. omega (arith, length-append names name)) rows packed) last

-- a table whose entries have names in order
pub table-ascends : (names : List ℕ) (rows : List Row) (es : List Entry) → map (named names) rows ≡ map view_of es
    → IsStrictlySortedBy order (map (λ e. string_bytes e.name) es) → IsStrictlySortedBy order (map (name_of names) rows)
table-ascends names rows es same sorted =
    subst (IsStrictlySortedBy order) (sym (map-map (λ (x : Named). x.0) view_of es) ∙ ap (map (λ (x : Named). x.0)) (sym same) ∙ map-map (λ (x : Named). x.0) (named names) rows) sorted

pub none-ascend : IsStrictlySortedBy order []
unfolding IsStrictlySortedBy
none-ascend = tt

-- ---- the table of a list of entries

-- an entry of a list of views is the view of one of the list
views-of : (es : List Entry) (t : Named) → Contains (map view_of es) t → (e : Entry) × Contains es e × (view_of e ≡ t)
views-of [] t (k, lt, at) = absurd (omega arith)
views-of (e ∷ es) t (k, lt, at) =
    let within : k < length (e ∷ es) = omega (arith, length-map (e ∷ es) view_of) in
    (get_or (e ∷ es) k e, Contains-get_or (e ∷ es) k e within, sym (get_or-map view_of (e ∷ es) k e t within) ∙ at)

view-of : (es : List Entry) (e : Entry) → Contains es e → Contains (map view_of es) (view_of e)
view-of es e (k, lt, at) = (k, omega (arith, length-map es view_of), get_or-map view_of es k e (view_of e) lt ∙ ap view_of at)

pub Contains-views : (es others : List Entry) → ((e : Entry) → Contains es e → Contains others e) → (t : Named) → Contains (map view_of es) t → Contains (map view_of others) t
Contains-views es others only t there = let one = views-of es t there in subst (Contains (map view_of others)) one.2 (view-of others one.0 (only one.0 one.1))

pub of-views : (entries kept : List Entry) → ((e : Entry) → Contains entries e → Any (λ (k : Entry). bytes_eq (string_bytes e.name) (string_bytes k.name) ≡ true) kept)
    → ((e : Entry) → Contains kept e → Contains entries e) → IsOf entries (map view_of kept)
of-views entries kept all only = record {
  all = λ e there. let one = all e there in (one.0, view_of one.1, omega (arith, length-map kept view_of, one.2), get_or-map view_of kept one.0 one.1 (view_of one.1) one.2 ∙ ap view_of one.3, sym (same_bytes _ _ one.4));
  no_more = Contains-views kept entries only;
}

pub ok-through : {T E : Type 0} (P Q : T → Type 0) → ((t : T) → P t → Q t) → (r : Result T E) → IfOk r P → IfOk r Q
ok-through P Q f (Ok t) h = f t h
ok-through P Q f (Err e) h = tt
