-- The records that were put last, beside those that are filed.
use Rattle.std.proofs.Common.{◌≡◌, ◌≢◌, ℕ, ◌+◌, ◌-◌, ◌<◌, ◌==◌, Bool, true, false, List, [], ◌∷◌, ◌++◌, append-nil, eq-eqb, refl, sym, ap, subst, ◌∙◌, ◌⊎◌, inl, inr, arith}
use Rattle.std.specs.Prelude.{◌||◌, cond, drop, find, map, nat_lt, not, Option, Some, None, slice_get}
use Rattle.std.specs.Cmp.{nat_cmp_total}
use Rattle.std.specs.FinMap.{IsAntisymmetric, empty, entries, entries-insert, get, insert, nat_cmp-IsAntisymmetric, put, remove, same_map, values}
use Rattle.std.specs.FinMap.Entries.{by_order}
use Rattle.std.specs.FinSet as set
use Rattle.std.specs.FinSet.{contains, contains-empty, contains-insert, empty_of_len, len-insert, len-remove, same_set}
use Rattle.std.specs.Ordering.{eq_by_cmp, nat_cmp}
use Rattle.std.specs.declared.cmp.Ordering.TheVariants.{Less, Equal, Greater}
use Rattle.std.specs.Cmp.{Equal-is}
use Rattle.std.proofs.lemmas.Bool.{cases_eq, eqb-true, ltb-false, ltb-true, true≢false}
use Rattle.std.proofs.lemmas.List.{append_assoc, map-append}
use Rattle.std.proofs.lemmas.List.Elements.{filter-append}
use Rattle.std.proofs.lemmas.Option.{none-some}
use Rattle.sync_record.specs.Devices.{bytes_cmp}
use Rattle.sync_record.specs.Records.{Name, FileRecord}
use Rattle.folder_core.proofs.AnnouncedMaps.{insert_here, insert_other, insert_split, remove_here, remove_other, remove_split}
use Rattle.folder_core.proofs.ListTests.{In, in_get, inside}
use Rattle.folder_core.proofs.Orders.{bytes_total, exact_names}
use Rattle.folder_index.specs.Indexes.{Names}
use Rattle.folder_index.specs.Latest.{AreAbove, AreLatest, AreRising, is_at, with_latest, without_sequence}
use Rattle.folder_index.specs.Sequences.{Sequenced, later_than}

exact : IsAntisymmetric nat_cmp
exact = nat_cmp-IsAntisymmetric

abbrev sequence_of : FileRecord → ℕ
sequence_of r = r.sequence

-- ---- maps

module _ (m : Sequenced) (q : ℕ) where
  remove_over : (r : FileRecord) → remove (insert m q r) q ≡ remove m q
  remove_over r = same_map nat_cmp_total exact (remove (insert m q r) q) (remove m q) (λ p. by p (cases_eq p q))
    where
      by : (p : ℕ) → (p ≡ q) ⊎ (p ≢ q) → get (remove (insert m q r) q) p ≡ get (remove m q) p
      by p (inl s) = ap (get (remove (insert m q r) q)) s ∙ remove_here nat_cmp_total exact (insert m q r) q ∙ sym (ap (get (remove m q)) s ∙ remove_here nat_cmp_total exact m q)
      by p (inr other) = remove_other nat_cmp_total exact (insert m q r) q p other ∙ insert_other nat_cmp_total exact m q p r other ∙ sym (remove_other nat_cmp_total exact m q p other)

  pub remove_aside : (k : ℕ) (r : FileRecord) → k ≢ q → remove (insert m k r) q ≡ insert (remove m q) k r
  remove_aside k r unlike = same_map nat_cmp_total exact (remove (insert m k r) q) (insert (remove m q) k r) (λ p. by p (cases_eq p q) (cases_eq p k))
    where
      by : (p : ℕ) → (p ≡ q) ⊎ (p ≢ q) → (p ≡ k) ⊎ (p ≢ k) → get (remove (insert m k r) q) p ≡ get (insert (remove m q) k r) p
      by p (inl s) k_or =
          ap (get (remove (insert m k r) q)) s ∙ remove_here nat_cmp_total exact (insert m k r) q
          ∙ sym (ap (get (insert (remove m q) k r)) s ∙ insert_other nat_cmp_total exact (remove m q) k q r (λ e. unlike (sym e)) ∙ remove_here nat_cmp_total exact m q)
      by p (inr other) (inl s) =
          remove_other nat_cmp_total exact (insert m k r) q p other ∙ ap (get (insert m k r)) s ∙ insert_here nat_cmp_total exact m k r
          ∙ sym (ap (get (insert (remove m q) k r)) s ∙ insert_here nat_cmp_total exact (remove m q) k r)
      by p (inr other) (inr unlike_k) =
          remove_other nat_cmp_total exact (insert m k r) q p other ∙ insert_other nat_cmp_total exact m k p r unlike_k
          ∙ sym (insert_other nat_cmp_total exact (remove m q) k p r unlike_k ∙ remove_other nat_cmp_total exact m q p other)

-- ---- the records of both

at_is : (q : ℕ) (r : FileRecord) → is_at q r ≡ true → r.sequence ≡ q
at_is q r t = eqb-true r.sequence q t

at_not : (q : ℕ) (r : FileRecord) → is_at q r ≡ false → r.sequence ≢ q
at_not q r f s = true≢false (sym (eq-eqb r.sequence q s) ∙ f)

-- one is taken out of both
pub without_latest : (rs : List FileRecord) (m : Sequenced) (q : ℕ) → with_latest (without_sequence q rs) (remove m q) ≡ remove (with_latest rs m) q
without_latest [] m q = refl
without_latest (r ∷ rs) m q = by (is_at q r) refl ∙ without_latest rs (insert m r.sequence r) q
  where
    by : (b : Bool) → is_at q r ≡ b → with_latest (cond (not b) (r ∷ without_sequence q rs) (without_sequence q rs)) (remove m q) ≡ with_latest (without_sequence q rs) (remove (insert m r.sequence r) q)
    by true t = ap (with_latest (without_sequence q rs)) (sym (remove_over m q r) ∙ ap (λ k. remove (insert m k r) q) (sym (at_is q r t)))
    by false f = ap (with_latest (without_sequence q rs)) (sym (remove_aside m q r.sequence r (at_not q r f)))

-- one more
pub with_latest_push : (rs : List FileRecord) (m : Sequenced) (r : FileRecord) → with_latest (rs ++ r ∷ []) m ≡ insert (with_latest rs m) r.sequence r
with_latest_push [] m r = refl
with_latest_push (x ∷ rs) m r = with_latest_push rs (insert m x.sequence x) r

-- what is below all of them stays
pub get_below : (rs : List FileRecord) (m : Sequenced) (q : ℕ) → AreAbove q rs → get (with_latest rs m) q ≡ get m q
get_below [] m q above = refl
get_below (r ∷ rs) m q above =
    get_below rs (insert m r.sequence r) q above.1
    ∙ insert_other nat_cmp_total exact m r.sequence q r (λ s. (let a = above.0 in absurd (omega arith)))

pub get_latest : (rs : List FileRecord) → AreRising rs → (m : Sequenced) (r : FileRecord) → In r rs → get (with_latest rs m) r.sequence ≡ Some r
get_latest [] rises m r i = absurd i
get_latest (x ∷ rs) rises m r (inl s) =
    ap (λ (y : FileRecord). get (with_latest rs (insert m x.sequence x)) y.sequence) s
    ∙ get_below rs (insert m x.sequence x) x.sequence rises.0
    ∙ insert_here nat_cmp_total exact m x.sequence x
    ∙ ap Some (sym s)
get_latest (x ∷ rs) rises m r (inr i) = get_latest rs rises.1 (insert m x.sequence x) r i

pub latest_of : (rs : List FileRecord) (m : Sequenced) (q : ℕ) (r : FileRecord) → get (with_latest rs m) q ≡ Some r → (get m q ≡ Some r) ⊎ In r rs
latest_of [] m q r e = inl e
latest_of (x ∷ rs) m q r e = by (latest_of rs (insert m x.sequence x) q r e)
  where
    first : ((q ≡ x.sequence) × (x ≡ r)) ⊎ (get m q ≡ Some r) → (get m q ≡ Some r) ⊎ In r (x ∷ rs)
    first (inl s) = inr (inl (sym s.1))
    first (inr old) = inl old

    by : (get (insert m x.sequence x) q ≡ Some r) ⊎ In r rs → (get m q ≡ Some r) ⊎ In r (x ∷ rs)
    by (inl old) = first (insert_split nat_cmp_total exact m x.sequence q x r old)
    by (inr i) = inr (inr i)

-- the record of a sequence is found among those that were put last, or where the others are
pub found_latest : (rs : List FileRecord) → AreRising rs → (m : Sequenced) (q : ℕ) (r : FileRecord) → Some r ≡ find (is_at q) rs → Some r ≡ get (with_latest rs m) q
found_latest [] rises m q r e = absurd (none-some r (sym e))
found_latest (x ∷ rs) rises m q r e = by (is_at q x) refl e (found_latest rs rises.1 (insert m x.sequence x) q r)
  where
    by : (b : Bool) → is_at q x ≡ b → Some r ≡ cond b (Some x) (find (is_at q) rs) → (Some r ≡ find (is_at q) rs → Some r ≡ get (with_latest rs (insert m x.sequence x)) q) → Some r ≡ get (with_latest rs (insert m x.sequence x)) q
    by true t f rest =
        f ∙ sym (ap (get (with_latest rs (insert m x.sequence x))) (sym (at_is q x t))
        ∙ get_below rs (insert m x.sequence x) x.sequence rises.0
        ∙ insert_here nat_cmp_total exact m x.sequence x)
    by false n f rest = rest f

pub not_latest : (rs : List FileRecord) (m : Sequenced) (q : ℕ) → None ≡ find (is_at q) rs → get m q ≡ get (with_latest rs m) q
not_latest [] m q e = refl
not_latest (x ∷ rs) m q e = by (is_at q x) refl e (not_latest rs (insert m x.sequence x) q)
  where
    by : (b : Bool) → is_at q x ≡ b → None ≡ cond b (Some x) (find (is_at q) rs) → (None ≡ find (is_at q) rs → get (insert m x.sequence x) q ≡ get (with_latest rs (insert m x.sequence x)) q) → get m q ≡ get (with_latest rs (insert m x.sequence x)) q
    by true t f rest = absurd (none-some x f)
    by false n f rest = sym (insert_other nat_cmp_total exact m x.sequence q x (λ s. at_not q x n (sym s))) ∙ rest f

-- ---- their order

above_without : (p q : ℕ) (rs : List FileRecord) → AreAbove p rs → AreAbove p (without_sequence q rs)
above_without p q [] above = tt
above_without p q (r ∷ rs) above =
    elim (is_at q r) as (λ b. AreAbove p (cond (not b) (r ∷ without_sequence q rs) (without_sequence q rs))) [
      | true ↦ above_without p q rs above.1
      | false ↦ (above.0, above_without p q rs above.1)
    ]

rising_without : (q : ℕ) (rs : List FileRecord) → AreRising rs → AreRising (without_sequence q rs)
rising_without q [] rises = tt
rising_without q (r ∷ rs) rises =
    elim (is_at q r) as (λ b. AreRising (cond (not b) (r ∷ without_sequence q rs) (without_sequence q rs))) [
      | true ↦ rising_without q rs rises.1
      | false ↦ (above_without r.sequence q rs rises.0, rising_without q rs rises.1)
    ]

above_push : (p : ℕ) (rs : List FileRecord) (r : FileRecord) → AreAbove p rs → p < r.sequence → AreAbove p (rs ++ r ∷ [])
above_push p [] r above less = (less, tt)
above_push p (x ∷ rs) r above less = (above.0, above_push p rs r above.1 less)

rising_push : (rs : List FileRecord) (r : FileRecord) → AreRising rs → ((x : FileRecord) → In x rs → x.sequence < r.sequence) → AreRising (rs ++ r ∷ [])
rising_push [] r rises less = (tt, tt)
rising_push (x ∷ rs) r rises less = (above_push x.sequence rs r rises.0 (less x (inl refl)), rising_push rs r rises.1 (λ y i. less y (inr i)))

pub no_latest : AreLatest empty []
no_latest = record { rises = tt; above = λ q r e. tt }

pub none_latest : (m : Sequenced) → AreLatest m []
none_latest m = record { rises = tt; above = λ q r e. tt }

module _ (m : Sequenced) where
  module _ (r : FileRecord) (rs : List FileRecord) (are : AreLatest m (r ∷ rs)) where
    pub first_absent : get m r.sequence ≡ None
    first_absent = by (get m r.sequence) refl
      where
        by : (o : Option FileRecord) → get m r.sequence ≡ o → get m r.sequence ≡ None
        by None e = e
        by (Some x) e = (let a = (are.above r.sequence x e).0 in absurd (omega arith))

    pub first_filed : AreLatest (insert m r.sequence r) rs
    first_filed = record {
      rises = are.rises.1;
      above = λ q x e. by q x (insert_split nat_cmp_total exact m r.sequence q r x e);
    }
      where
        by : (q : ℕ) (x : FileRecord) → ((q ≡ r.sequence) × (r ≡ x)) ⊎ (get m q ≡ Some x) → AreAbove q rs
        by q x (inl s) = subst (λ p. AreAbove p rs) (sym s.0) are.rises.0
        by q x (inr old) = (are.above q x old).1

  module _ (rs : List FileRecord) (are : AreLatest m rs) where
    pub one_taken : (q : ℕ) → AreLatest (remove m q) (without_sequence q rs)
    one_taken q = record {
      rises = rising_without q rs are.rises;
      above = λ p x e. above_without p q rs (are.above p x (remove_split nat_cmp_total exact m q p x e).1);
    }

    pub one_put : (r : FileRecord) → ((q : ℕ) (x : FileRecord) → get (with_latest rs m) q ≡ Some x → q < r.sequence) → AreLatest m (rs ++ r ∷ [])
    one_put r less = record {
      rises = rising_push rs r are.rises (λ x i. less x.sequence x (get_latest rs are.rises m x i));
      above = λ q x e. above_push q rs r (are.above q x e) (less q x (get_below rs m q (are.above q x e) ∙ e));
    }

-- ---- in order

put_last : (es : List (ℕ × FileRecord)) (k : ℕ) (v : FileRecord) → ((e : ℕ × FileRecord) → In e es → e.0 < k) → put nat_cmp k v es ≡ es ++ (k, v) ∷ []
put_last [] k v less = refl
put_last (e ∷ es) k v less =
    ap (λ o. by_order o ((k, v) ∷ e ∷ es) ((e.0, v) ∷ es) (e ∷ put nat_cmp k v es)) (greater (nat_lt k e.0) refl (k == e.0) refl)
    ∙ ap (λ l. e ∷ l) (put_last es k v (λ x i. less x (inr i)))
  where
    greater : (a : Bool) → nat_lt k e.0 ≡ a → (b : Bool) → (k == e.0) ≡ b → cond a Less (cond b Equal Greater) ≡ Greater
    greater true t b u = (let x = ltb-true k e.0 t in let y = less e (inl refl) in absurd (omega arith))
    greater false f true u = (let x = eqb-true k e.0 u in let y = less e (inl refl) in absurd (omega arith))
    greater false f false u = refl

value_of : ℕ × FileRecord → FileRecord
value_of e = e.1

pub values_of_both : (rs : List FileRecord) (m : Sequenced) → AreLatest m rs → values (with_latest rs m) ≡ values m ++ rs
values_of_both [] m are = sym (append-nil (values m))
values_of_both (r ∷ rs) m are =
    values_of_both rs (insert m r.sequence r) (first_filed m r rs are)
    ∙ ap (λ (es : List (ℕ × FileRecord)). map (λ e. e.1) es ++ rs)
    (entries-insert nat_cmp_total m r.sequence r
    ∙ put_last (entries m) r.sequence r (λ e i. (are.above e.0 e.1 (in_get nat_cmp_total exact m e i)).0))
    ∙ ap (λ xs. xs ++ rs) (map-append (λ (e : ℕ × FileRecord). e.1) (entries m) ((r.sequence, r) ∷ []))
    ∙ append_assoc (values m) (r ∷ []) rs

pub later_of_both : (q : ℕ) (rs : List FileRecord) (m : Sequenced) → AreLatest m rs → later_than q (values m) ++ later_than q rs ≡ later_than q (values (with_latest rs m))
later_of_both q rs m are = sym (ap (later_than q) (values_of_both rs m are) ∙ filter-append (λ (r : FileRecord). nat_lt q r.sequence) (values m) rs)

-- ---- how many names are promised

module _ (names : Names) (n : Name) where
  pub promise_counts : contains names n ≡ true → 0 < set.len names
  promise_counts t = by (set.len names) refl
    where
      by : (k : ℕ) → set.len names ≡ k → 0 < k
      by k e = elim (nat_lt 0 k) as (λ b. nat_lt 0 k ≡ b → 0 < k) [
        | true ↦ λ s. ltb-true 0 k s
        | false ↦ λ f. (let none : set.len names ≡ 0 = (let a = ltb-false 0 k f in omega arith) in absurd (true≢false (sym t ∙ ap (λ s. contains s n) (empty_of_len names none) ∙ contains-empty bytes_cmp n)))
      ] refl

  pub one_promised : contains names n ≡ false → set.len (set.insert names n) ≡ set.len names + 1
  one_promised f = len-insert bytes_total names n ∙ ap (λ b. cond b (set.len names) (set.len names + 1)) f

  pub one_released : contains names n ≡ true → set.len (set.remove names n) ≡ set.len names - 1
  one_released t = len-remove bytes_total names n ∙ ap (λ b. cond b (set.len names - 1) (set.len names)) t

  pub none_released : contains names n ≡ false → set.len (set.remove names n) ≡ set.len names
  none_released f = len-remove bytes_total names n ∙ ap (λ b. cond b (set.len names - 1) (set.len names)) f

  -- a name that is promised already
  pub promised_again : contains names n ≡ true → names ≡ set.insert names n
  promised_again t = same_set bytes_total exact_names names (set.insert names n) (λ m.
      by m (eq_by_cmp bytes_cmp m n) refl ∙ sym (contains-insert bytes_total names n m))
    where
      by : (m : Name) (b : Bool) → eq_by_cmp bytes_cmp m n ≡ b → contains names m ≡ (b || contains names m)
      by m true e = ap (contains names) (exact_names m n ((Equal-is (bytes_cmp m n)).0 e)) ∙ t
      by m false e = refl

-- the first of some
pub first_of : (xs : List FileRecord) (r : FileRecord) → Some r ≡ slice_get xs 0 → xs ≡ r ∷ drop 1 xs
first_of [] r e = absurd (none-some r (sym e))
first_of (x ∷ xs) r e = ap (λ y. y ∷ xs) (inside x r (sym e))
