-- The parents of a name are its parts before each '/'.
use Rattle.std.proofs.Common.{◌≡◌, ◌≢◌, ℕ, ◌+◌, ◌-◌, ◌<◌, ◌≤◌, Bool, true, false, suc, zero, List, [], ◌∷◌, ◌++◌, get_or, take, length, refl, sym, ap, ◌∙◌, arith}
use Rattle.std.specs.Prelude.{bytes_eq, nat_eq, ◌&&◌, ◌||◌}
use Rattle.std.specs.Bool.{one_answer}
use Rattle.std.proofs.lemmas.Bool.{eq-eqb, false_from_ne_true, eqb-true, false≢true}
use Rattle.std.proofs.lemmas.List.{take_more}
use Rattle.std.proofs.lemmas.Slice.Eq.{bytes_eq-Decides}
use Rattle.std.proofs.Math.Seq.{take-length}
use Rattle.file_store.specs.Names.{is_parent}

-- with one more byte
pub parent_push : (q xs : List ℕ) (x : ℕ) → is_parent q (xs ++ x ∷ []) ≡ (is_parent q xs || (bytes_eq q xs && nat_eq x 47))
parent_push [] [] x = refl
parent_push [] (y ∷ ys) x = elim (nat_eq y 47) as (λ b. b ≡ (b || false)) [ true ↦ refl | false ↦ refl ]
parent_push (p ∷ ps) [] x = elim (nat_eq p x) as (λ b. (b && is_parent ps []) ≡ false) [ true ↦ nothing ps | false ↦ refl ]
  where
    nothing : (ps : List ℕ) → is_parent ps [] ≡ false
    nothing [] = refl
    nothing (p ∷ ps) = refl
parent_push (p ∷ ps) (y ∷ ys) x = ap (λ b. nat_eq p y && b) (parent_push ps ys x) ∙ spread (nat_eq p y) (is_parent ps ys) (bytes_eq ps ys) (nat_eq x 47)
  where
    spread : (a b c d : Bool) → (a && (b || (c && d))) ≡ ((a && b) || ((a && c) && d))
    spread true b c d = refl
    spread false b c d = refl

pub parent_none : (q : List ℕ) → is_parent q [] ≡ false
parent_none [] = refl
parent_none (p ∷ ps) = refl

pub turned : (a b : List ℕ) → bytes_eq a b ≡ bytes_eq b a
turned a b = one_answer (bytes_eq a b) (bytes_eq b a) (bytes_eq-Decides a b) (λ e. sym ((bytes_eq-Decides b a).0 e), λ e. (bytes_eq-Decides b a).1 (sym e))

or_false : (b : Bool) → (b || false) ≡ b
or_false true = refl
or_false false = refl

and_false : (b : Bool) → (b && false) ≡ false
and_false true = refl
and_false false = refl

or_turned : (a b c : Bool) → c ≡ true → (a || (b && c)) ≡ (b || a)
or_turned true true true e = refl
or_turned true false true e = refl
or_turned false true true e = refl
or_turned false false true e = refl
or_turned a b false e = absurd (false≢true e)

module _ (n : List ℕ) (q : List ℕ) where
  -- a byte that is no '/' adds no parent
  parent_kept : (i : ℕ) → i < length n → get_or n i 0 ≢ 47 → is_parent q (take (i + 1) n) ≡ is_parent q (take i n)
  parent_kept i h apart =
      ap (is_parent q) (take_more n i 0 h) ∙ parent_push q (take i n) (get_or n i 0)
      ∙ ap (λ b. is_parent q (take i n) || (bytes_eq q (take i n) && b)) (false_from_ne_true _ (λ e. apart (eqb-true _ _ e)))
      ∙ ap (λ b. is_parent q (take i n) || b) (and_false (bytes_eq q (take i n))) ∙ or_false (is_parent q (take i n))

  -- nor do more of them
  parent_kept_all : (i j : ℕ) → i + j ≤ length n → ((k : ℕ) → i ≤ k → k < length n → get_or n k 0 ≢ 47) → is_parent q (take (i + j) n) ≡ is_parent q (take i n)
  parent_kept_all i zero h apart = ap (λ m. is_parent q (take m n)) (let e : i + 0 ≡ i = omega arith in e)
  parent_kept_all i (suc j) h apart =
      ap (λ m. is_parent q (take m n)) (let e : i + suc j ≡ (i + j) + 1 = omega arith in e)
      ∙ parent_kept (i + j) (omega arith) (apart (i + j) (omega arith) (omega arith)) ∙ parent_kept_all i j (omega arith) apart

  pub no_parents : ((k : ℕ) → k < length n → get_or n k 0 ≢ 47) → is_parent q n ≡ false
  no_parents apart =
      ap (is_parent q) (sym (take-length n)) ∙ ap (λ m. is_parent q (take m n)) (let e : length n ≡ 0 + length n = omega arith in e)
      ∙ parent_kept_all 0 (length n) (omega arith) (λ k low high. apart k high) ∙ parent_none q

  -- the part before the last '/' is a parent, and its parents are the others
  pub last_parent : (i : ℕ) → i < length n → get_or n i 0 ≡ 47 → ((k : ℕ) → i < k → k < length n → get_or n k 0 ≢ 47)
      → is_parent q n ≡ (bytes_eq (take i n) q || is_parent q (take i n))
  last_parent i h slash apart =
      let whole : (i + 1) + (length n - (i + 1)) ≡ length n = omega arith in
      ap (is_parent q) (sym (take-length n)) ∙ ap (λ m. is_parent q (take m n)) (sym whole)
      ∙ parent_kept_all (i + 1) _ (omega arith) (λ k low high. apart k (omega arith) high)
      ∙ ap (is_parent q) (take_more n i 0 h) ∙ parent_push q (take i n) (get_or n i 0)
      ∙ or_turned (is_parent q (take i n)) (bytes_eq q (take i n)) (nat_eq (get_or n i 0) 47) (eq-eqb _ _ slash)
      ∙ ap (λ b. b || is_parent q (take i n)) (turned q (take i n))

-- by the byte after the beginning
pub parent_by_byte : (d n : List ℕ) → length d < length n → is_parent d n ≡ (nat_eq (get_or n (length d) 0) 47 && bytes_eq (take (length d) n) d)
parent_by_byte [] [] h = absurd (omega arith)
parent_by_byte [] (y ∷ ys) h = and_true (nat_eq y 47)
  where
    and_true : (b : Bool) → b ≡ (b && true)
    and_true true = refl
    and_true false = refl
parent_by_byte (x ∷ xs) [] h = absurd (omega arith)
parent_by_byte (x ∷ xs) (y ∷ ys) h =
    ap (λ b. nat_eq x y && b) (parent_by_byte xs ys (omega arith)) ∙ spread (nat_eq x y) (nat_eq y x) _ _ (nat_turned x y)
  where
    spread : (a a' b c : Bool) → a ≡ a' → (a && (b && c)) ≡ (b && (a' && c))
    spread a a' true c e = ap (λ m. m && c) e
    spread true a' false c e = refl
    spread false a' false c e = refl

    nat_turned : (x y : ℕ) → nat_eq x y ≡ nat_eq y x
    nat_turned x y = grind (arith)

pub no_parent_of_short : (d n : List ℕ) → length n ≤ length d → is_parent d n ≡ false
no_parent_of_short [] [] h = refl
no_parent_of_short [] (y ∷ ys) h = absurd (omega arith)
no_parent_of_short (x ∷ xs) [] h = refl
no_parent_of_short (x ∷ xs) (y ∷ ys) h = ap (λ b. nat_eq x y && b) (no_parent_of_short xs ys (omega arith)) ∙ and_false (nat_eq x y)
