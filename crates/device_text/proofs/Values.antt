-- The characters of base32 and their values.
use Rattle.std.proofs.Common.{◌≡◌, ◌≢◌, inl, inr, ℕ, zero, suc, ◌+◌, ◌-◌, ◌<◌, ◌≤◌, ◌==◌, Bool, false, ◌||◌, List, [], ◌∷◌, map, refl, sym, ap, ◌∙◌, arith}
use Rattle.std.specs.List.{list_any}
use Rattle.std.proofs.lemmas.Bool.{cases_lt, cases_eq}
use Rattle.std.proofs.lemmas.Bool.Decides.{nat_tests}
use Rattle.std.proofs.lemmas.Simd.{map-map}
use Rattle.sync_names.specs.Base32.{base32_digit}
use Rattle.device_text.specs.Base32.{AreBase32}
use Rattle.device_text.specs.Read.{as_read, IsValueOf}
use Rattle.device_text.specs.Found.{alphabet_value, value_of}
use Rattle.device_text.proofs.Characters.{letter, numeral}

letter_value : (v : ℕ) → v < 26 → alphabet_value (65 + v) ≡ v
letter_value v h = grind (arith, nat_tests)

numeral_value : (v : ℕ) → 26 ≤ v → v < 32 → alphabet_value (50 + (v - 26)) ≡ v
numeral_value v h l = grind (arith, nat_tests)

digit_value : (v : ℕ) → v < 32 → alphabet_value (base32_digit v) ≡ v
digit_value v h =
    elim (cases_lt v 26) [
      | inl l ↦ ap alphabet_value (letter v l) ∙ letter_value v l
      | inr l ↦ ap alphabet_value (numeral v l) ∙ numeral_value v l h
    ]

below : (c : ℕ) → alphabet_value c ≢ 32 → alphabet_value c < 32
below c h = grind (arith, nat_tests)

digit_again : (c : ℕ) → alphabet_value c ≢ 32 → c ≡ base32_digit (alphabet_value c)
digit_again c h = grind (arith, nat_tests)

pub stands : (c : ℕ) → value_of c ≢ 32 → IsValueOf c (value_of c)
stands c h = (below (as_read c) h, digit_again (as_read c) h)

-- a character that stands for no value has 32
pub stands_not : (c : ℕ) → ((value : ℕ) → IsValueOf c value → ⊥) → value_of c ≡ 32
stands_not c none =
    elim (cases_eq (value_of c) 32) [
      | inl e ↦ e
      | inr other ↦ absurd (none (value_of c) (stands c other))
    ]

digits_values : (vs : List ℕ) → AreBase32 vs → map alphabet_value (map base32_digit vs) ≡ vs
digits_values [] low = refl
digits_values (v ∷ vs) low =
    ap (λ (x : ℕ). x ∷ map alphabet_value (map base32_digit vs)) (digit_value v (low zero))
    ∙ ap (λ (l : List ℕ). v ∷ l) (digits_values vs (λ i. low (suc i)))

pub values_read : (cs vs : List ℕ) → AreBase32 vs → map as_read cs ≡ map base32_digit vs → map value_of cs ≡ vs
values_read cs vs low same = sym (map-map alphabet_value as_read cs) ∙ ap (map alphabet_value) same ∙ digits_values vs low

no_32 : (v : ℕ) → v < 32 → (v == 32) ≡ false
no_32 v h = grind (arith, nat_tests)

pub none_32 : (vs : List ℕ) → AreBase32 vs → list_any (λ v. v == 32) vs ≡ false
none_32 [] low = refl
none_32 (v ∷ vs) low =
    ap (λ (b : Bool). b || list_any (λ x. x == 32) vs) (no_32 v (low zero)) ∙ none_32 vs (λ i. low (suc i))
