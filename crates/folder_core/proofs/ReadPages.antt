-- Pages of local records: in rising sequence, none left out, and as many as fit.
use Rattle.std.proofs.Common.{◌≡◌, ℕ, zero, suc, ◌+◌, ◌<◌, ◌≤◌, Bool, true, false, List, [], ◌∷◌, ◌++◌, length, refl, sym, ap, subst, ◌∙◌, arith, ◌⊎◌, inl, inr, append-nil}
use Rattle.std.specs.Prelude.{T, cond, ◌||◌, nat_lt, nat_le, map, filter, fold, take, sum_by, Option, Some, None, unwrap_or, Contains}
use Rattle.std.specs.Cmp.{nat_cmp_total, nat_cmp_is, tied_itself, Equal-is}
use Rattle.std.specs.Ordering.{nat_cmp, eq_by_cmp, is_eq, is_gt}
use Rattle.std.specs.declared.cmp.Ordering.{Ordering}
use Rattle.std.specs.declared.cmp.Ordering.TheVariants.{Less, Equal, Greater}
use Rattle.std.specs.FinMap.{put, find, is_sorted, nat_cmp-IsAntisymmetric}
use Rattle.std.specs.FinMap.Entries.{by_order, find-put, is_sorted-put}
use Rattle.std.specs.List.{last_or, range_with_len, AllByRecursion}
use Rattle.std.specs.List.Sorted.{IsStrictlySortedBy}
use Rattle.std.proofs.lemmas.Bool.{true≢false, and_parts, and_from, and_cases, or_cases, leb-true, leb-false, le-leb, ltb-true, lt-ltb}
use Rattle.std.proofs.lemmas.List.{length-take-le}
use Rattle.std.proofs.lemmas.List.FromFn.{filter_of_map_range_with_len_more}
use Rattle.std.proofs.lemmas.List.Sums.{sum_by_push}
use Rattle.sync_record.specs.Records.{Name, FileRecord}
use Rattle.folder_core.specs.States.{FolderState, local, IsNumbered}
use Rattle.folder_core.specs.Reads.{locals, by_sequence, fits_page, page_of, local_since}
use Rattle.folder_core.proofs.ReadAnswers.{all_at, in_take, sorted_take, own-listed, listed-own}
use Rattle.folder_core.proofs.ListTests.{inside, In, in_contains, contains_in, in_map, of_map, in_filter, of_filter, parts, below_in, find_in}

-- ---- the last that passes, of values at 0, 1, ..

last-push : {X : Type 0} (o : Option X) (xs : List X) (y : X) → last_or o (xs ++ y ∷ []) ≡ Some y
last-push o [] y = refl
last-push o (x ∷ xs) y = last-push (Some x) xs y

module _ {X : Type 0} (p : X → Bool) (f : ℕ → X) where
  abbrev passing : ℕ → List X
  passing n = filter p (map f (range_with_len 0 n))

  pub record Last (n : ℕ) : Type 0 where
    pub at : ℕ
    pub below : at < n
    pub last : last_or None (passing n) ≡ Some (f at)
    pub passes : p (f at) ≡ true
    pub rest : (j : ℕ) → at < j → j < n → p (f j) ≡ false

  one-more : (n : ℕ) → passing (n + 1) ≡ passing n ++ cond (p (f n)) (f n ∷ []) []
  one-more n = filter_of_map_range_with_len_more p f 0 n n (omega arith)

  last-first : p (f 0) ≡ true → Last (0 + 1)
  last-first e = record {
    at = 0;
    below = omega arith;
    last = ap (last_or None) (one-more 0 ∙ ap (λ b. passing 0 ++ cond b (f 0 ∷ []) []) e) ∙ last-push None (passing 0) (f 0);
    passes = e;
    rest = λ j a b. absurd (omega arith);
  }

  last-next : (n : ℕ) → Last n → Last (n + 1)
  last-next n l =
      elim (p (f n)) as (λ b. p (f n) ≡ b → Last (n + 1)) [
        | true ↦ λ t. record {
          at = n;
          below = omega arith;
          last = ap (last_or None) (one-more n ∙ ap (λ b. passing n ++ cond b (f n ∷ []) []) t) ∙ last-push None (passing n) (f n);
          passes = t;
          rest = λ j a b. absurd (omega arith);
        }
        | false ↦ λ t. record {
          at = l.at;
          below = let b = l.below in omega arith;
          last = ap (last_or None) (one-more n ∙ ap (λ b. passing n ++ cond b (f n ∷ []) []) t ∙ append-nil (passing n)) ∙ l.last;
          passes = l.passes;
          rest = λ j a b. elim (nat_le n j) as (λ o. nat_le n j ≡ o → p (f j) ≡ false) [
            | true ↦ λ e. ap (λ x. p (f x)) (let le = leb-true n j e in omega arith) ∙ t
            | false ↦ λ e. l.rest j a (leb-false n j e)
          ] refl;
        }
      ] refl

  pub last-passing : (n : ℕ) → p (f 0) ≡ true → Last (n + 1)
  last-passing zero e = last-first e
  last-passing (suc n) e = subst Last (omega arith) (last-next (n + 1) (last-passing n e))

-- ---- the longest beginning that fits

abbrev pub blocks_of : List FileRecord → ℕ
blocks_of rs = sum_by (λ r. length r.blocks) rs

-- a page with this record at its end would be too large
abbrev pub IsFull : ℕ → List FileRecord → FileRecord → Type 0
IsFull limit rs q = (length rs ≡ limit) ⊎ ((1 ≤ length rs) × (1000000 < blocks_of rs + length q.blocks))

or_false : (a b : Bool) → (a || b) ≡ false → (a ≡ false) × (b ≡ false)
or_false true b e = absurd (true≢false e)
or_false false b e = (refl, e)

module _ (limit : ℕ) (xs : List FileRecord) where
  fits_none : fits_page limit [] ≡ true
  fits_none = and_from _ _ (le-leb 0 limit (omega arith)) refl

  pub longest : Last (fits_page limit) (λ n. take n xs) (length xs + 1)
  longest = last-passing (fits_page limit) (λ n. take n xs) (length xs) fits_none

  pub page-is : page_of limit xs ≡ take longest.at xs
  page-is = ap (λ o. unwrap_or o []) longest.last

pub fits-is : (limit : ℕ) (rs : List FileRecord) → fits_page limit rs ≡ true → (length rs ≤ limit) × ((blocks_of rs ≤ 1000000) ⊎ (length rs ≤ 1))
fits-is limit rs e = let t = and_parts _ _ e in (leb-true (length rs) limit t.0, by (or_cases _ _ t.1))
  where
    by : (nat_le (blocks_of rs) 1000000 ≡ true) ⊎ (nat_le (length rs) 1 ≡ true) → (blocks_of rs ≤ 1000000) ⊎ (length rs ≤ 1)
    by (inl f) = inl (leb-true (blocks_of rs) 1000000 f)
    by (inr f) = inr (leb-true (length rs) 1 f)

full-by : (limit : ℕ) (rs : List FileRecord) (q : FileRecord) → length rs ≤ limit → fits_page limit (rs ++ q ∷ []) ≡ false → length (rs ++ q ∷ []) ≡ length rs + 1 → IsFull limit rs q
full-by limit rs q le e more = by (and_cases _ _ e)
  where
    by : (nat_le (length (rs ++ q ∷ [])) limit ≡ false) ⊎ ((nat_le (blocks_of (rs ++ q ∷ [])) 1000000 || nat_le (length (rs ++ q ∷ [])) 1) ≡ false) → IsFull limit rs q
    by (inl f) = inl (let lt = leb-false (length (rs ++ q ∷ [])) limit f in omega arith)
    by (inr f) =
        let g = or_false (nat_le (blocks_of (rs ++ q ∷ [])) 1000000) (nat_le (length (rs ++ q ∷ [])) 1) f in
        let a = leb-false (blocks_of (rs ++ q ∷ [])) 1000000 g.0 in
        let b = leb-false (length (rs ++ q ∷ [])) 1 g.1 in
        let s : blocks_of (rs ++ q ∷ []) ≡ blocks_of rs + length q.blocks = sum_by_push (λ r. length r.blocks) rs q in
        inr (omega arith, omega arith)

-- ---- records in rising sequence

abbrev seq_cmp : FileRecord → FileRecord → Ordering
seq_cmp q r = nat_cmp q.sequence r.sequence

-- what is after a front, first
pub record Next (k : ℕ) (xs : List FileRecord) (r : FileRecord) : Type 0 where
  next : FileRecord
  below : k < length xs
  taken : take (suc k) xs ≡ take k xs ++ next ∷ []
  listed : In next xs
  upto : (next ≡ r) ⊎ (seq_cmp next r ≡ Less)
  above : (y : FileRecord) → In y (take k xs) → seq_cmp y next ≡ Less

in_or_next : (k : ℕ) (xs : List FileRecord) (r : FileRecord) → IsStrictlySortedBy seq_cmp xs → In r xs → In r (take k xs) ⊎ Next k xs r
unfolding IsStrictlySortedBy
in_or_next k [] r s i = absurd i
in_or_next zero (x ∷ xs) r s i = inr (record {
  next = x;
  below = omega arith;
  taken = refl;
  listed = inl refl;
  upto = by i;
  above = λ y j. absurd j;
})
  where
    by : (r ≡ x) ⊎ In r xs → (x ≡ r) ⊎ (seq_cmp x r ≡ Less)
    by (inl e) = inl (sym e)
    by (inr j) = inr (all_at (λ w. seq_cmp x w ≡ Less) xs r s.0 j)
in_or_next (suc k) (x ∷ xs) r s (inl e) = inl (inl e)
in_or_next (suc k) (x ∷ xs) r s (inr i) = by (in_or_next k xs r s.1 i)
  where
    by : In r (take k xs) ⊎ Next k xs r → In r (take (suc k) (x ∷ xs)) ⊎ Next (suc k) (x ∷ xs) r
    by (inl j) = inl (inr j)
    by (inr n) = inr (record {
      next = n.next;
      below = let b = n.below in omega arith;
      taken = ap (λ ys. x ∷ ys) n.taken;
      listed = inr n.listed;
      upto = n.upto;
      above = λ y j. first y j;
    })
      where
        first : (y : FileRecord) → (y ≡ x) ⊎ In y (take k xs) → seq_cmp y n.next ≡ Less
        first y (inl e) = ap (λ w. seq_cmp w n.next) e ∙ all_at (λ w. seq_cmp x w ≡ Less) xs n.next s.0 n.listed
        first y (inr j) = n.above y j

abbrev Filed : Type 0
Filed = ℕ × FileRecord

abbrev file_all : List Filed → List FileRecord → List Filed
file_all es rs = fold (λ es r. put nat_cmp r.sequence r es) es rs

put-in : (k : ℕ) (v : FileRecord) (es : List Filed) (e : Filed) → In e (put nat_cmp k v es) → (e ≡ (k, v)) ⊎ In e es
put-in k v [] e (inl s) = inl s
put-in k v [] e (inr i) = absurd i
put-in k v (x ∷ es) e i =
    elim (nat_cmp k x.0) as (λ o. nat_cmp k x.0 ≡ o → In e (by_order o ((k, v) ∷ x ∷ es) ((x.0, v) ∷ es) (x ∷ put nat_cmp k v es)) → (e ≡ (k, v)) ⊎ In e (x ∷ es)) [
      | Less ↦ λ t j. less j
      | Equal ↦ λ t j. equal t j
      | Greater ↦ λ t j. greater (put-in k v es e) j
    ] refl i
  where
    less : (e ≡ (k, v)) ⊎ In e (x ∷ es) → (e ≡ (k, v)) ⊎ In e (x ∷ es)
    less j = j

    equal : nat_cmp k x.0 ≡ Equal → (e ≡ (x.0, v)) ⊎ In e es → (e ≡ (k, v)) ⊎ In e (x ∷ es)
    equal t (inl s) = inl (s ∙ ap (λ y. (y, v)) (sym (nat_cmp-IsAntisymmetric k x.0 t)))
    equal t (inr j) = inr (inr j)

    greater : (In e (put nat_cmp k v es) → (e ≡ (k, v)) ⊎ In e es) → (e ≡ x) ⊎ In e (put nat_cmp k v es) → (e ≡ (k, v)) ⊎ In e (x ∷ es)
    greater rest (inl s) = inr (inl s)
    greater rest (inr j) = further (rest j)
      where
        further : (e ≡ (k, v)) ⊎ In e es → (e ≡ (k, v)) ⊎ In e (x ∷ es)
        further (inl s) = inl s
        further (inr l) = inr (inr l)

-- what is filed is one of the records, under its sequence
filed-of : (es : List Filed) (rs : List FileRecord) (e : Filed) → In e (file_all es rs) → In e es ⊎ (In e.1 rs × (e.0 ≡ e.1.sequence))
filed-of es [] e i = inl i
filed-of es (r ∷ rs) e i = by (filed-of (put nat_cmp r.sequence r es) rs e i)
  where
    first : (e ≡ (r.sequence, r)) ⊎ In e es → In e es ⊎ (In e.1 (r ∷ rs) × (e.0 ≡ e.1.sequence))
    first (inl s) = inr (inl (ap (λ (x : Filed). x.1) s), ap (λ (x : Filed). x.0) s ∙ sym (ap (λ (x : Filed). x.1.sequence) s))
    first (inr j) = inl j

    by : In e (put nat_cmp r.sequence r es) ⊎ (In e.1 rs × (e.0 ≡ e.1.sequence)) → In e es ⊎ (In e.1 (r ∷ rs) × (e.0 ≡ e.1.sequence))
    by (inl j) = first (put-in r.sequence r es e j)
    by (inr h) = inr (inr h.0, h.1)

-- and each record is, where no other has its sequence
filed-found : (r : FileRecord) (es : List Filed) (rs : List FileRecord) → ((q : FileRecord) → In q rs → q.sequence ≡ r.sequence → q ≡ r) → In r rs ⊎ (find nat_cmp r.sequence es ≡ Some r) → find nat_cmp r.sequence (file_all es rs) ≡ Some r
filed-found r es [] only (inl i) = absurd i
filed-found r es [] only (inr e) = e
filed-found r es (x ∷ xs) only here = filed-found r (put nat_cmp x.sequence x es) xs (λ q i. only q (inr i)) (by (eq_by_cmp nat_cmp r.sequence x.sequence) refl)
  where
    look : (b : Bool) → eq_by_cmp nat_cmp r.sequence x.sequence ≡ b → find nat_cmp r.sequence (put nat_cmp x.sequence x es) ≡ cond b (Some x) (find nat_cmp r.sequence es)
    look b t = find-put nat_cmp nat_cmp_total r.sequence x.sequence x es ∙ ap (λ c. cond c (Some x) (find nat_cmp r.sequence es)) t

    rest : (t : eq_by_cmp nat_cmp r.sequence x.sequence ≡ false) → ((r ≡ x) ⊎ In r xs) ⊎ (find nat_cmp r.sequence es ≡ Some r) → In r xs ⊎ (find nat_cmp r.sequence (put nat_cmp x.sequence x es) ≡ Some r)
    rest t (inl (inl s)) = absurd (true≢false (sym (ap is_eq (tied_itself nat_cmp_total r.sequence)) ∙ ap (λ (y : FileRecord). eq_by_cmp nat_cmp r.sequence y.sequence) s ∙ t))
    rest t (inl (inr i)) = inl i
    rest t (inr e) = inr (look false t ∙ e)

    by : (b : Bool) → eq_by_cmp nat_cmp r.sequence x.sequence ≡ b → In r xs ⊎ (find nat_cmp r.sequence (put nat_cmp x.sequence x es) ≡ Some r)
    by true t =
        let same : r.sequence ≡ x.sequence = nat_cmp-IsAntisymmetric r.sequence x.sequence ((Equal-is (nat_cmp r.sequence x.sequence)).0 t) in
        inr (look true t ∙ ap Some (only x (inl refl) (sym same)))
    by false t = rest t here

file_all-sorted : (es : List Filed) (rs : List FileRecord) → T (is_sorted nat_cmp es) → T (is_sorted nat_cmp (file_all es rs))
file_all-sorted es [] s = s
file_all-sorted es (r ∷ rs) s = file_all-sorted (put nat_cmp r.sequence r es) rs (is_sorted-put nat_cmp nat_cmp_total r.sequence r es s)

all_of : {A B : Type 0} (P : B → Type 0) (g : A → B) (xs : List A) → ((x : A) → In x xs → P (g x)) → AllByRecursion P (map g xs)
all_of P g [] each = tt
all_of P g (x ∷ xs) each = (each x (inl refl), all_of P g xs (λ y i. each y (inr i)))

rising-records : (es : List Filed) → T (is_sorted nat_cmp es) → ((e : Filed) → In e es → e.0 ≡ e.1.sequence) → IsStrictlySortedBy seq_cmp (map (λ e. e.1) es)
unfolding IsStrictlySortedBy
rising-records [] s own = tt
rising-records (e ∷ es) s own = (
  all_of (λ r. seq_cmp e.1 r ≡ Less) (λ (x : Filed). x.1) es (λ x i.
      (λ j. nat_cmp (sym (own e (inl refl)) j) (sym (own x (inr i)) j)) ∙ below_in nat_cmp_total nat_cmp-IsAntisymmetric e.0 es (parts _ _ s).0 x i),
  rising-records es (parts _ _ s).1 (λ x i. own x (inr i)),
)

rising-sequences : (rs : List FileRecord) → IsStrictlySortedBy seq_cmp rs → IsStrictlySortedBy nat_cmp (map (λ r. r.sequence) rs)
unfolding IsStrictlySortedBy
rising-sequences [] s = tt
rising-sequences (r ∷ rs) s = (all_of (λ k. nat_cmp r.sequence k ≡ Less) (λ (q : FileRecord). q.sequence) rs (λ q i. all_at (λ w. seq_cmp r w ≡ Less) rs q s.0 i), rising-sequences rs s.1)

-- ---- the page

not-less : (x y : ℕ) → y ≤ x → nat_cmp x y ≡ Less → ⊥
not-less x y le e =
    elim (nat_le x y) as (λ b. nat_le x y ≡ b → ⊥) [
      | true ↦ λ t. true≢false (ap is_eq (nat_cmp_is x y Equal (let up = leb-true x y t in omega arith) ∙ e))
      | false ↦ λ t. true≢false (ap is_gt (nat_cmp_is x y Greater (leb-false x y t) ∙ e))
    ] refl

below-of : (x y : ℕ) → nat_cmp x y ≡ Less → x < y
below-of x y e =
    elim (nat_le y x) as (λ b. nat_le y x ≡ b → x < y) [
      | true ↦ λ t. absurd (not-less x y (leb-true y x t) e)
      | false ↦ λ t. leb-false y x t
    ] refl

module _ (s : FolderState) (seq limit : ℕ) (numbered : IsNumbered s) where
  abbrev later : List FileRecord
  later = filter (λ r. nat_lt seq r.sequence) (locals s)

  abbrev ordered : List FileRecord
  ordered = by_sequence later

  own : (e : Filed) → In e (file_all [] later) → In e.1 later × (e.0 ≡ e.1.sequence)
  own e i = by (filed-of [] later e i)
    where
      by : ⊥ ⊎ (In e.1 later × (e.0 ≡ e.1.sequence)) → In e.1 later × (e.0 ≡ e.1.sequence)
      by (inl j) = absurd j
      by (inr h) = h

  ordered-rises : IsStrictlySortedBy seq_cmp ordered
  ordered-rises = rising-records (file_all [] later) (file_all-sorted [] later tt) (λ e i. (own e i).1)

  pub ordered-of : (r : FileRecord) → In r ordered → (n : Name) × (local s n ≡ Some r) × (seq < r.sequence)
  ordered-of r i =
      let m = of_map (λ (e : Filed). e.1) (file_all [] later) r i in
      let f = of_filter (λ q. nat_lt seq q.sequence) (locals s) r (subst (λ x. In x later) m.2 (own m.0 m.1).0) in
      let l = listed-own s r f.0 in
      (l.0, l.1, ltb-true seq r.sequence f.1)

  one-each : (q r : FileRecord) → In q later → In r later → q.sequence ≡ r.sequence → q ≡ r
  one-each q r i j same =
      let a = listed-own s q (of_filter (λ x. nat_lt seq x.sequence) (locals s) q i).0 in
      let b = listed-own s r (of_filter (λ x. nat_lt seq x.sequence) (locals s) r j).0 in
      inside q r (sym a.1 ∙ ap (local s) (numbered.distinct a.0 b.0 q r a.1 b.1 same) ∙ b.1)

  ordered-has : (n : Name) (r : FileRecord) → local s n ≡ Some r → seq < r.sequence → In r ordered
  ordered-has n r g lt =
      let i = in_filter (λ x. nat_lt seq x.sequence) (locals s) r (own-listed s n r g) (lt-ltb seq r.sequence lt) in
      let f = filed-found r [] later (λ q j same. one-each q r j i same) (inl i) in
      in_map (λ (e : Filed). e.1) (file_all [] later) (r.sequence, r) (find_in nat_cmp_total nat_cmp-IsAntisymmetric (file_all [] later) r.sequence r f)

  abbrev at : ℕ
  at = (longest limit ordered).at

  abbrev front : List FileRecord
  front = take at ordered

  abbrev page : List FileRecord
  page = local_since s seq limit

  page-front : page ≡ front
  page-front = page-is limit ordered

  pub page-rises : IsStrictlySortedBy nat_cmp (map (λ r. r.sequence) page)
  page-rises = subst (λ rs. IsStrictlySortedBy nat_cmp (map (λ r. r.sequence) rs)) (sym page-front) (rising-sequences front (sorted_take seq_cmp at ordered ordered-rises))

  front-fits : (length front ≤ limit) × ((blocks_of front ≤ 1000000) ⊎ (length front ≤ 1))
  front-fits = fits-is limit front (longest limit ordered).passes

  pub page-fits : (length page ≤ limit) × ((blocks_of page ≤ 1000000) ⊎ (length page ≤ 1))
  page-fits = subst (λ rs. (length rs ≤ limit) × ((blocks_of rs ≤ 1000000) ⊎ (length rs ≤ 1))) (sym page-front) front-fits

  pub page-of : (r : FileRecord) → Contains page r → (n : Name) × (local s n ≡ Some r) × (seq < r.sequence)
  page-of r c = ordered-of r (in_take at ordered r (subst (In r) page-front (contains_in page r c)))

  -- a page stops at the record that is next
  abbrev pub Stops : List FileRecord → FileRecord → Type 0
  Stops rs r =
      (m : Name) × (q : FileRecord) × (local s m ≡ Some q) × (q.sequence ≤ r.sequence)
      × ((p : FileRecord) → Contains rs p → p.sequence < q.sequence) × IsFull limit rs q

  stops : (r : FileRecord) → Next at ordered r → Stops front r
  stops r n =
      let o = ordered-of n.next n.listed in (
        o.0,
        n.next,
        o.1,
        upto n.upto,
        (λ p c. below-of p.sequence n.next.sequence (n.above p (contains_in front p c))),
        full-by limit front n.next front-fits.0 (ap (fits_page limit) (sym n.taken) ∙ (longest limit ordered).rest (suc at) (omega arith) (let b = n.below in omega arith)) longer,
      )
    where
      upto : (n.next ≡ r) ⊎ (seq_cmp n.next r ≡ Less) → n.next.sequence ≤ r.sequence
      upto (inl e) = let f : n.next.sequence ≡ r.sequence = ap (λ (x : FileRecord). x.sequence) e in omega arith
      upto (inr e) = let f = below-of n.next.sequence r.sequence e in omega arith

      longer : length (front ++ n.next ∷ []) ≡ length front + 1
      longer =
          let a : length (take (suc at) ordered) ≡ suc at = length-take-le (suc at) ordered (let b = n.below in omega arith) in
          let c : length (take at ordered) ≡ at = length-take-le at ordered (let b = n.below in omega arith) in
          let d : length (take (suc at) ordered) ≡ length (front ++ n.next ∷ []) = ap length n.taken in
          omega arith

  pub page-has : (n : Name) (r : FileRecord) → local s n ≡ Some r → seq < r.sequence → Contains page r ⊎ Stops page r
  page-has n r g lt = by (in_or_next at ordered r ordered-rises (ordered-has n r g lt))
    where
      by : In r front ⊎ Next at ordered r → Contains page r ⊎ Stops page r
      by (inl i) = inl (in_contains page r (subst (In r) (sym page-front) i))
      by (inr n) = inr (subst (λ rs. Stops rs r) (sym page-front) (stops r n))
