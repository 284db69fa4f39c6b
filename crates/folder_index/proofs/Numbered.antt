-- The numbers of sequences are apart, and which of them change.
use Rattle.std.proofs.Common.{◌≡◌, ◌≢◌, ℕ, ◌+◌, ◌*◌, ◌/◌, ◌<◌, ◌^◌, Bool, true, false, refl, sym, ap, ◌∙◌, ◌⊎◌, inl, inr, arith}
use Rattle.std.specs.Prelude.{cond, not, unwrap_or}
use Rattle.std.specs.Cmp.{nat_cmp_total}
use Rattle.std.specs.FinMap.{insert, nat_cmp-IsAntisymmetric}
use Rattle.std.proofs.lemmas.Bool.{cases_eq}
use Rattle.folder_core.proofs.AnnouncedMaps.{insert_here, insert_other}
use Rattle.folder_index.specs.Numbers.{Seconds, is_second, number_of, other_number_of}

halves : (p q : ℕ) (a b : Bool) → 2 * p + cond a 1 0 ≡ 2 * q + cond b 1 0 → p ≡ q
halves p q true true e = omega arith
halves p q true false e = omega arith
halves p q false true e = omega arith
halves p q false false e = omega arith

module _ (m : Seconds) where
  pub apart : (p q : ℕ) → number_of m p ≡ number_of m q → p ≡ q
  apart p q e = halves p q (is_second m p) (is_second m q) e

  second_put : (q : ℕ) (b : Bool) → is_second (insert m q b) q ≡ b
  second_put q b = ap (λ o. unwrap_or o false) (insert_here nat_cmp_total nat_cmp-IsAntisymmetric m q b)

  second_other : (q p : ℕ) (b : Bool) → p ≢ q → is_second (insert m q b) p ≡ is_second m p
  second_other q p b other = ap (λ o. unwrap_or o false) (insert_other nat_cmp_total nat_cmp-IsAntisymmetric m q p b other)

  -- an entry changes no number
  pub second_kept : (q p : ℕ) → is_second (insert m q (is_second m q)) p ≡ is_second m p
  second_kept q p = by (cases_eq p q)
    where
      by : (p ≡ q) ⊎ (p ≢ q) → is_second (insert m q (is_second m q)) p ≡ is_second m p
      by (inl s) = ap (is_second (insert m q (is_second m q))) s ∙ second_put q (is_second m q) ∙ sym (ap (is_second m) s)
      by (inr other) = second_other q p (is_second m q) other

  pub numbers_kept : (q : ℕ) → number_of (insert m q (is_second m q)) ≡ number_of m
  numbers_kept q = λ i p. 2 * p + cond (second_kept q p i) 1 0

  pub other_kept : (q p : ℕ) → other_number_of (insert m q (is_second m q)) p ≡ other_number_of m p
  other_kept q p = ap (λ b. 2 * p + cond b 0 1) (second_kept q p)

  turned_over : (b : Bool) (n : ℕ) → n + cond (not b) 1 0 ≡ n + cond b 0 1
  turned_over true n = refl
  turned_over false n = refl

  -- the other number is taken for one sequence
  pub turned_here : (q : ℕ) → number_of (insert m q (not (is_second m q))) q ≡ other_number_of m q
  turned_here q = ap (λ b. 2 * q + cond b 1 0) (second_put q (not (is_second m q))) ∙ turned_over (is_second m q) (2 * q)

  pub turned_other : (q p : ℕ) → p ≢ q → number_of (insert m q (not (is_second m q))) p ≡ number_of m p
  turned_other q p other = ap (λ b. 2 * p + cond b 1 0) (second_other q p (not (is_second m q)) other)

  -- the other number of a sequence is no sequence's number
  by_halves : (p q : ℕ) (a b : Bool) → (a ≡ b) ⊎ (p ≢ q) → 2 * q + cond b 0 1 ≢ 2 * p + cond a 1 0
  by_halves p q true true h e = absurd (omega arith)
  by_halves p q false false h e = absurd (omega arith)
  by_halves p q true false (inl s) e = let c : true ≡ false = s in cc
  by_halves p q false true (inl s) e = let c : false ≡ true = s in cc
  by_halves p q true false (inr other) e = other (omega arith)
  by_halves p q false true (inr other) e = other (omega arith)

  pub other_unlike : (q p : ℕ) → other_number_of m q ≢ number_of m p
  other_unlike q p = by_halves p q (is_second m p) (is_second m q) (by (cases_eq p q))
    where
      by : (p ≡ q) ⊎ (p ≢ q) → (is_second m p ≡ is_second m q) ⊎ (p ≢ q)
      by (inl s) = inl (ap (is_second m) s)
      by (inr other) = inr other

  -- a number fits 64 bits
  fits : (q : ℕ) (b : Bool) → q < 2 ^ 63 → 2 * q + cond b 1 0 < 2 ^ 64
  fits q true low = omega arith
  fits q false low = omega arith

  pub number_fits : (q : ℕ) → q < 2 ^ 63 → number_of m q < 2 ^ 64
  number_fits q low = fits q (is_second m q) low

  -- and tells the sequence
  half : (q : ℕ) (b : Bool) → (2 * q + cond b 1 0) / 2 ≡ q
  half q true = omega arith
  half q false = omega arith

  pub sequence_told : (q : ℕ) → number_of m q / 2 ≡ q
  sequence_told q = half q (is_second m q)
