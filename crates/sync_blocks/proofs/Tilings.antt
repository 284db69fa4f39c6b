-- What the test of a tiling says.
use Rattle.std.proofs.Common.{◌≡◌, ℕ, zero, suc, ◌+◌, ◌<◌, ◌≤◌, Bool, true, false, List, [], ◌∷◌, ◌++◌, arith, refl, sym, ap, ◌∙◌, inl, inr, ⊎_elim, All}
use Rattle.std.specs.Prelude.{◌↔◌, ◌&&◌, ◌==◌, IsTrue, sum_by}
use Rattle.std.proofs.lemmas.Bool.{and_parts, and_from, eqb-true, eq-eqb, leb-true, le-leb, false_from_ne_true}
use Rattle.std.proofs.lemmas.List.Elements.{All-cons, All-nil}
use Rattle.std.proofs.lemmas.List.Sums.{sum_by-cons}
use Rattle.sync_blocks.specs.declared.block.Block.{Block}
use Rattle.sync_blocks.specs.Tiling.{IsTiling, IsEmptyBlock, Tiles, tiles_from, tiles}

-- one block before others
pub tiles_from-step : (at size s : ℕ) (b last : Block) (full : List Block)
    → tiles_from at (b ∷ (full ++ last ∷ [])) size s ≡ ((b.offset == at) && (b.size == s) && tiles_from (at + s) (full ++ last ∷ []) size s)
tiles_from-step at size s b last [] = refl
tiles_from-step at size s b last (c ∷ cs) = refl

-- blocks end at the size, so none begins past it
pub begins_by_size : (bs : List Block) (at size s : ℕ) → tiles_from at bs size s ≡ true → at ≤ size
begins_by_size [] at size s h =
    let e = eqb-true _ _ h in
    omega arith
begins_by_size (b ∷ []) at size s h =
    let e : at + b.size ≡ size = eqb-true (at + b.size) size (and_parts _ _ (and_parts _ _ (and_parts _ _ h).0).0).1 in
    omega arith
begins_by_size (b ∷ c ∷ bs) at size s h =
    let rest : at + s ≤ size = begins_by_size (c ∷ bs) (at + s) size s (and_parts _ _ h).1 in
    omega arith

-- a full block that ends past the size
pub ends_past_size : (at size s : ℕ) (b last : Block) (full : List Block) → size < at + s
    → tiles_from at (b ∷ (full ++ last ∷ [])) size s ≡ false
ends_past_size at size s b last full past = false_from_ne_true _ (λ h.
    let whole = sym (tiles_from-step at size s b last full) ∙ h in
    let rest : at + s ≤ size = begins_by_size (full ++ last ∷ []) (at + s) size s (and_parts _ _ whole).1 in
    omega arith)

-- a tiling from an offset on, in the words of `IsTiling`
record TilesOn (at : ℕ) (blocks : List Block) (size block_size : ℕ) : Type 0 where
  begin : (front back : List Block) (b : Block) → blocks ≡ front ++ b ∷ back → b.offset ≡ at + sum_by (λ c. c.size) front
  all : at + sum_by (λ c. c.size) blocks ≡ size
  full : (front back : List Block) (b c : Block) → blocks ≡ front ++ b ∷ c ∷ back → b.size ≡ block_size
  last : (front : List Block) (b : Block) → blocks ≡ front ++ b ∷ [] → (1 ≤ b.size) × (b.size ≤ block_size)

no_room : {X : Type 0} (front back : List X) (b : X) → [] ≡ front ++ b ∷ back → ⊥
no_room [] back b e = cc
no_room (f ∷ fs) back b e = cc

head_is : {X : Type 0} (x y : X) (xs ys : List X) → x ∷ xs ≡ y ∷ ys → x ≡ y
head_is x y xs ys e = cc

tail_is : {X : Type 0} (x y : X) (xs ys : List X) → x ∷ xs ≡ y ∷ ys → xs ≡ ys
tail_is x y xs ys e = cc

tested : (bs : List Block) (at size s : ℕ) → tiles_from at bs size s ≡ true → TilesOn at bs size s
tested [] at size s h =
    let e = eqb-true _ _ h in
    record {
      begin = λ front back b e. absurd (no_room front back b e);
      all = omega arith;
      full = λ front back b c e. absurd (no_room front (c ∷ back) b e);
      last = λ front b e. absurd (no_room front [] b e);
    }
tested (x ∷ []) at size s h =
    let most = and_parts _ _ h in
    let least = and_parts _ _ most.0 in
    let ends = and_parts _ _ least.0 in
    let size_of = λ (c : Block). c.size in
    record {
      begin = one_begins ends.0;
      all = omega (arith, eqb-true _ _ ends.1, sum_by-cons size_of x []);
      full = λ front back b c e. absurd (one_has_no_next front back b c e);
      last = one_last (leb-true _ _ least.1) (leb-true _ _ most.1);
    }
  where
    one_begins : (x.offset == at) ≡ true → (front back : List Block) (b : Block) → x ∷ [] ≡ front ++ b ∷ back
        → b.offset ≡ at + sum_by (λ c. c.size) front
    one_begins o [] back b e =
        let same = ap (λ c. c.offset) (head_is x b [] back e) in
        let place = eqb-true _ _ o in
        omega arith
    one_begins o (f ∷ fs) back b e = absurd (no_room fs back b (tail_is x f [] (fs ++ b ∷ back) e))

    one_has_no_next : (front back : List Block) (b c : Block) → x ∷ [] ≡ front ++ b ∷ c ∷ back → ⊥
    one_has_no_next [] back b c e = no_room [] back c (tail_is x b [] (c ∷ back) e)
    one_has_no_next (f ∷ fs) back b c e = no_room fs (c ∷ back) b (tail_is x f [] (fs ++ b ∷ c ∷ back) e)

    one_last : 1 ≤ x.size → x.size ≤ s → (front : List Block) (b : Block) → x ∷ [] ≡ front ++ b ∷ []
        → (1 ≤ b.size) × (b.size ≤ s)
    one_last low high [] b e =
        let same = ap (λ c. c.size) (head_is x b [] [] e) in
        (omega arith, omega arith)
    one_last low high (f ∷ fs) b e = absurd (no_room fs [] b (tail_is x f [] (fs ++ b ∷ []) e))
tested (x ∷ y ∷ ys) at size s h =
    let parts = and_parts _ _ h in
    let here = and_parts _ _ parts.0 in
    let rest = tested (y ∷ ys) (at + s) size s parts.1 in
    let size_of = λ (c : Block). c.size in
    let size_is = eqb-true _ _ here.1 in
    record {
      begin = more_begin here.0 size_is rest;
      all = omega (arith, rest.all, sum_by-cons size_of x (y ∷ ys));
      full = more_full size_is rest;
      last = more_last rest;
    }
  where
    more_begin : (x.offset == at) ≡ true → x.size ≡ s → TilesOn (at + s) (y ∷ ys) size s
        → (front back : List Block) (b : Block) → x ∷ y ∷ ys ≡ front ++ b ∷ back → b.offset ≡ at + sum_by (λ c. c.size) front
    more_begin o z rest [] back b e =
        let same = ap (λ c. c.offset) (head_is x b (y ∷ ys) back e) in
        let place = eqb-true _ _ o in
        omega arith
    more_begin o z rest (f ∷ fs) back b e =
        let same = ap (λ c. c.size) (head_is x f (y ∷ ys) (fs ++ b ∷ back) e) in
        let inner = rest.begin fs back b (tail_is x f (y ∷ ys) (fs ++ b ∷ back) e) in
        let size_of = λ (c : Block). c.size in
        omega (arith, sum_by-cons size_of f fs)

    more_full : x.size ≡ s → TilesOn (at + s) (y ∷ ys) size s
        → (front back : List Block) (b c : Block) → x ∷ y ∷ ys ≡ front ++ b ∷ c ∷ back → b.size ≡ s
    more_full z rest [] back b c e = sym (ap (λ d. d.size) (head_is x b (y ∷ ys) (c ∷ back) e)) ∙ z
    more_full z rest (f ∷ fs) back b c e = rest.full fs back b c (tail_is x f (y ∷ ys) (fs ++ b ∷ c ∷ back) e)

    more_last : TilesOn (at + s) (y ∷ ys) size s
        → (front : List Block) (b : Block) → x ∷ y ∷ ys ≡ front ++ b ∷ [] → (1 ≤ b.size) × (b.size ≤ s)
    more_last rest [] b e = absurd (no_room [] ys y (sym (tail_is x b (y ∷ ys) [] e)))
    more_last rest (f ∷ fs) b e = rest.last fs b (tail_is x f (y ∷ ys) (fs ++ b ∷ []) e)

passes : (bs : List Block) (at size s : ℕ) → TilesOn at bs size s → tiles_from at bs size s ≡ true
passes [] at size s t =
    let e = t.all in
    eq-eqb at size (omega arith)
passes (x ∷ []) at size s t =
    let size_of = λ (c : Block). c.size in
    let place = t.begin [] [] x refl in
    let bounds = t.last [] x refl in
    and_from _ _ (and_from _ _ (and_from _ _ (eq-eqb x.offset at (omega arith))
    (eq-eqb (at + x.size) size (omega (arith, t.all, sum_by-cons size_of x []))))
    (le-leb _ _ bounds.0)) (le-leb _ _ bounds.1)
passes (x ∷ y ∷ ys) at size s t =
    let size_of = λ (c : Block). c.size in
    let place = t.begin [] (y ∷ ys) x refl in
    let size_is = t.full [] ys x y refl in
    let rest : TilesOn (at + s) (y ∷ ys) size s = record {
      begin = λ front back b e.
          let whole = t.begin (x ∷ front) back b (ap (λ l. x ∷ l) e) in
          omega (arith, sum_by-cons size_of x front);
      all = omega (arith, t.all, sum_by-cons size_of x (y ∷ ys));
      full = λ front back b c e. t.full (x ∷ front) back b c (ap (λ l. x ∷ l) e);
      last = λ front b e. t.last (x ∷ front) b (ap (λ l. x ∷ l) e);
    } in
    and_from _ _ (and_from _ _ (eq-eqb x.offset at (omega arith)) (eq-eqb x.size s size_is)) (passes (y ∷ ys) (at + s) size s rest)

from_start : (bs : List Block) (size s : ℕ) → IsTrue (tiles_from 0 bs size s) → IsTiling bs size s
from_start bs size s h =
    let t = tested bs 0 size s h in
    record {
      begin = λ front back b e. let o = t.begin front back b e in omega arith;
      all = let a = t.all in omega arith;
      full = t.full;
      last = t.last;
    }

to_start : (bs : List Block) (size s : ℕ) → IsTiling bs size s → IsTrue (tiles_from 0 bs size s)
to_start bs size s t = passes bs 0 size s (record {
  begin = λ front back b e. let o = t.begin front back b e in omega arith;
  all = let a = t.all in omega arith;
  full = t.full;
  last = t.last;
})

empty_block_of : (bs : List Block) (size s : ℕ) → IsEmptyBlock bs size → tiles bs size s ≡ true
empty_block_of bs size s e =
    let b = e.one.0 in
    rw (e.empty, e.one.1) (and_from _ _ (eq-eqb _ _ e.one.2) (eq-eqb _ _ e.one.3))

-- the test says what the relation says
pub tiles_is : (bs : List Block) (size s : ℕ) → IsTrue (tiles bs size s) ↔ Tiles bs size s
tiles_is bs size s = (to bs size, λ t. ⊎_elim (back bs size) (empty_block_of bs size s) t)
  where
    to : (bs : List Block) (size : ℕ) → IsTrue (tiles bs size s) → Tiles bs size s
    to [] size h = inl (from_start [] size s h)
    to (b ∷ []) zero h =
        let parts = and_parts _ _ h in
        inr (record { empty = refl; one = (b, refl, eqb-true _ _ parts.0, eqb-true _ _ parts.1) })
    to (b ∷ []) (suc n) h = inl (from_start (b ∷ []) (suc n) s h)
    to (b ∷ c ∷ bs) size h = inl (from_start (b ∷ c ∷ bs) size s h)

    back : (bs : List Block) (size : ℕ) → IsTiling bs size s → IsTrue (tiles bs size s)
    back [] size t = to_start [] size s t
    back (b ∷ []) zero t =
        let size_of = λ (c : Block). c.size in
        let some = (t.last [] b refl).0 in
        absurd (omega (arith, t.all, sum_by-cons size_of b []))
    back (b ∷ []) (suc n) t = to_start (b ∷ []) (suc n) s t
    back (b ∷ c ∷ bs) size t = to_start (b ∷ c ∷ bs) size s t

on_within : (bs : List Block) (at size s : ℕ) → tiles_from at bs size s ≡ true → All (λ b. b.offset + b.size ≤ size) bs
on_within [] at size s h = All-nil (λ (b : Block). b.offset + b.size ≤ size)
on_within (x ∷ []) at size s h =
    let ends = and_parts _ _ (and_parts _ _ (and_parts _ _ h).0).0 in
    let place : x.offset ≡ at = eqb-true _ _ ends.0 in
    let all : at + x.size ≡ size = eqb-true _ _ ends.1 in
    All-cons (λ (b : Block). b.offset + b.size ≤ size) x [] (omega arith) (All-nil (λ (b : Block). b.offset + b.size ≤ size))
on_within (x ∷ y ∷ ys) at size s h =
    let parts = and_parts _ _ h in
    let here = and_parts _ _ parts.0 in
    let place : x.offset ≡ at = eqb-true _ _ here.0 in
    let size_is : x.size ≡ s = eqb-true _ _ here.1 in
    let end = begins_by_size (y ∷ ys) (at + s) size s parts.1 in
    All-cons (λ (b : Block). b.offset + b.size ≤ size) x (y ∷ ys) (omega arith) (on_within (y ∷ ys) (at + s) size s parts.1)

-- no block of a tiling ends past the size
pub tiles_within : (bs : List Block) (size s : ℕ) → IsTrue (tiles bs size s) → All (λ b. b.offset + b.size ≤ size) bs
tiles_within [] size s h = on_within [] 0 size s h
tiles_within (b ∷ []) zero s h =
    let parts = and_parts _ _ h in
    let place : b.offset ≡ 0 = eqb-true _ _ parts.0 in
    let size_is : b.size ≡ 0 = eqb-true _ _ parts.1 in
    All-cons (λ (c : Block). c.offset + c.size ≤ zero) b [] (omega arith) (All-nil (λ (c : Block). c.offset + c.size ≤ zero))
tiles_within (b ∷ []) (suc n) s h = on_within (b ∷ []) 0 (suc n) s h
tiles_within (b ∷ c ∷ bs) size s h = on_within (b ∷ c ∷ bs) 0 size s h

pub holds_from : (r : Bool) (bs : List Block) (size s : ℕ) → r ≡ tiles bs size s → IsTrue r ↔ Tiles bs size s
holds_from r bs size s e = rw e (tiles_is bs size s)
