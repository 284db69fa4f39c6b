-- Bits of some words of 64.
use Rattle.std.proofs.Common.{◌≡◌, ◌≢◌, ℕ, ◌+◌, ◌*◌, ◌-◌, ◌/◌, ◌%◌, ◌<◌, inl, inr, List, length, get_or, refl, sym, ap, subst, ◌∙◌, arith}
use Rattle.std.proofs.Math.ListN.{set}
use Rattle.std.specs.Int.{w64, bit_at, trailing_ones}
use Rattle.std.proofs.lemmas.Bool.{cases_lt}
use Rattle.std.proofs.lemmas.Bool.Decides.{eqb_tells}
use Rattle.std.proofs.lemmas.List.{get_or-set_same, get_or-set_other}
use Rattle.std.proofs.lemmas.Nat.Bits.{bit_at_ones, bit_at-trailing_ones}
use Rattle.bep_session.specs.Ids.{bit}

pub bit-set_same : (words : List ℕ) (k n v : ℕ) → k / 64 < length words → bit_at n (k % 64) ≡ v → bit (set words (k / 64) n) k ≡ v
bit-set_same words k n v lt e = ap (λ (x : ℕ). bit_at x (k % 64)) (get_or-set_same words (k / 64) n 0 lt) ∙ e

apart : (j k : ℕ) → j ≢ k → j / 64 ≡ k / 64 → j % 64 ≢ k % 64
apart j k ne e = λ same. ne (omega arith)

pub bit-set_other : (words : List ℕ) (k n : ℕ) → k / 64 < length words → ((i : ℕ) → i < 64 → i ≢ k % 64 → bit_at n i ≡ bit_at (get_or words (k / 64) 0) i) → (j : ℕ) → j ≢ k → bit (set words (k / 64) n) j ≡ bit words j
bit-set_other words k n lt same j ne = elim (eqb_tells (j / 64) (k / 64)) [
  | inl h ↦ ap (λ (i : ℕ). bit_at (get_or (set words (k / 64) n) i 0) (j % 64)) h.1
      ∙ ap (λ (x : ℕ). bit_at x (j % 64)) (get_or-set_same words (k / 64) n 0 lt)
      ∙ same (j % 64) (omega arith) (apart j k ne h.1)
      ∙ ap (λ (i : ℕ). bit_at (get_or words i 0) (j % 64)) (sym h.1)
  | inr h ↦ ap (λ (x : ℕ). bit_at x (j % 64)) (get_or-set_other words (k / 64) (j / 64) n 0 h.1)
]

-- a bit of word i
bit_in : (words : List ℕ) (i t j v : ℕ) → t < 64 → j ≡ i * 64 + t → bit_at (get_or words i 0) t ≡ v → bit words j ≡ v
bit_in words i t j v lt e h =
    let word : j / 64 ≡ i = omega arith in
    let place : j % 64 ≡ t = omega arith in
    ap (λ (n : ℕ). bit_at (get_or words n 0) (j % 64)) word ∙ ap (λ (n : ℕ). bit_at (get_or words i 0) n) place ∙ h

pub zero_in : (words : List ℕ) (i t : ℕ) → t ≡ trailing_ones w64 (get_or words i 0) → get_or words i 0 + 1 < 18446744073709551616 → bit words (i * 64 + t) ≡ 0
zero_in words i t e lt =
    let found = bit_at-trailing_ones w64 (get_or words i 0) lt in
    bit_in words i t (i * 64 + t) 0 (subst (λ (n : ℕ). n < 64) (sym e) found.0) refl (ap (bit_at (get_or words i 0)) e ∙ found.1)

pub ones_before : (words : List ℕ) (i t : ℕ) → t ≡ trailing_ones w64 (get_or words i 0) → get_or words i 0 + 1 < 18446744073709551616 → ((j : ℕ) → j < i * 64 → bit words j ≡ 1) → (j : ℕ) → j < i * 64 + t → bit words j ≡ 1
ones_before words i t e lt before j under = elim (cases_lt j (i * 64)) [
  | inl h ↦ before j h
  | inr h ↦
      let found = bit_at-trailing_ones w64 (get_or words i 0) lt in
      let short : t < 64 = subst (λ (n : ℕ). n < 64) (sym e) found.0 in
      let place : j ≡ i * 64 + (j - i * 64) = omega arith in
      bit_in words i (j - i * 64) j 1 (omega arith) place (found.2 (j - i * 64) (subst (λ (n : ℕ). j - i * 64 < n) e (omega arith)))
]

pub ones_through : (words : List ℕ) (i : ℕ) → get_or words i 0 ≡ 18446744073709551615 → ((j : ℕ) → j < i * 64 → bit words j ≡ 1) → (j : ℕ) → j < (i + 1) * 64 → bit words j ≡ 1
ones_through words i e before j under = elim (cases_lt j (i * 64)) [
  | inl h ↦ before j h
  | inr h ↦
      let place : j ≡ i * 64 + (j - i * 64) = omega arith in
      let short : j - i * 64 < 64 = omega arith in
      bit_in words i (j - i * 64) j 1 short place (ap (λ (n : ℕ). bit_at n (j - i * 64)) e ∙ bit_at_ones 64 (j - i * 64) short)
]
