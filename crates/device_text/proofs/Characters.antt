-- The characters of base32, and how they are read.
use Rattle.std.proofs.Common.{◌≡◌, ℕ, zero, suc, ◌+◌, ◌-◌, ◌<◌, ◌≤◌, Bool, true, cond, not, List, [], ◌∷◌, map, length, get_or, refl, sym, ap, ◌∙◌, arith}
use Rattle.std.proofs.lemmas.Bool.Decides.{nat_tests}
use Rattle.std.proofs.Common.{inl, inr}
use Rattle.std.proofs.lemmas.Bool.{cases_lt}
use Rattle.sync_names.specs.Base32.{base32_digit}
use Rattle.device_text.specs.Base32.{AreBase32}
use Rattle.device_text.specs.Read.{is_separator, characters, as_read}

pub letter : (v : ℕ) → v < 26 → base32_digit v ≡ 65 + v
letter v h = grind (arith, nat_tests)

pub numeral : (v : ℕ) → 26 ≤ v → base32_digit v ≡ 50 + (v - 26)
numeral v h = grind (arith, nat_tests)

pub kept_above : (c : ℕ) → 46 ≤ c → not (is_separator c) ≡ true
kept_above c h = grind (arith, nat_tests)

pub digit_ge : (v : ℕ) → 50 ≤ base32_digit v
digit_ge v = grind (arith, nat_tests)

pub unread : (c : ℕ) → 50 ≤ c → c ≤ 55 → as_read c ≡ c
unread c h k = grind (arith, nat_tests)

pub unread_letter : (c : ℕ) → 65 ≤ c → c ≤ 90 → as_read c ≡ c
unread_letter c h k = grind (arith, nat_tests)

pub digit_as_read : (v : ℕ) → v < 32 → as_read (base32_digit v) ≡ base32_digit v
digit_as_read v h =
    elim (cases_lt v 26) [
      | inl l ↦ ap as_read (letter v l) ∙ unread_letter (65 + v) (omega arith) (omega arith) ∙ sym (letter v l)
      | inr l ↦ ap as_read (numeral v l) ∙ unread (50 + (v - 26)) (omega arith) (omega arith) ∙ sym (numeral v l)
    ]

pub same_digit : (v w : ℕ) → v < 32 → w < 32 → base32_digit v ≡ base32_digit w → v ≡ w
same_digit v w h k e =
    elim (cases_lt v 26) [
      | inl l ↦ elim (cases_lt w 26) [
        | inl m ↦ omega (arith, letter v l, letter w m, e)
        | inr m ↦ absurd (omega (arith, letter v l, numeral w m, e))
      ]
      | inr l ↦ elim (cases_lt w 26) [
        | inl m ↦ absurd (omega (arith, numeral v l, letter w m, e))
        | inr m ↦ omega (arith, numeral v l, numeral w m, e)
      ]
    ]

abbrev tail : List ℕ → List ℕ
tail [] = []
tail (x ∷ l) = l

pub same_values : (v w : List ℕ) → length v ≡ length w → AreBase32 v → AreBase32 w → map base32_digit v ≡ map base32_digit w → v ≡ w
same_values [] [] l h k e = refl
same_values [] (y ∷ w) l h k e = cc
same_values (x ∷ v) [] l h k e = cc
same_values (x ∷ v) (y ∷ w) l h k e =
    let first : x ≡ y = same_digit x y (h zero) (k zero) (ap (λ (s : List ℕ). get_or s 0 0) e) in
    let rest : v ≡ w = same_values v w (omega (arith, l)) (λ i. h (suc i)) (λ i. k (suc i)) (ap tail e) in
    cc

pub all_kept : (l : List ℕ) → ((i : ℕ) → i < length l → 46 ≤ get_or l i 0) → characters l ≡ l
all_kept [] h = refl
all_kept (c ∷ l) h =
    ap (λ (b : Bool). cond b (c ∷ characters l) (characters l)) (kept_above c (h zero (omega arith)))
    ∙ ap (λ (s : List ℕ). c ∷ s) (all_kept l (λ i k. h (suc i) (omega arith)))

pub digits_kept : (v : List ℕ) → characters (map base32_digit v) ≡ map base32_digit v
digits_kept [] = refl
digits_kept (x ∷ v) =
    ap (λ (b : Bool). cond b (base32_digit x ∷ characters (map base32_digit v)) (characters (map base32_digit v)))
    (kept_above (base32_digit x) (omega (arith, digit_ge x)))
    ∙ ap (λ (s : List ℕ). base32_digit x ∷ s) (digits_kept v)

pub digits_as_read : (v : List ℕ) → AreBase32 v → map as_read (map base32_digit v) ≡ map base32_digit v
digits_as_read [] h = refl
digits_as_read (x ∷ v) h =
    let first = digit_as_read x (h zero) in
    let rest = digits_as_read v (λ i. h (suc i)) in
    ap (λ (c : ℕ). c ∷ map as_read (map base32_digit v)) first ∙ ap (λ (s : List ℕ). base32_digit x ∷ s) rest
