-- The tests of the four groups.
use Rattle.std.proofs.Common.{◌≡◌, ℕ, zero, suc, ◌+◌, ◌<◌, Bool, true, false, cond, not, List, refl, arith}
use Rattle.std.specs.Prelude.{Result, Ok, Err}
use Rattle.std.proofs.lemmas.Bool.{eqb-true, eq-eqb, ne_eqb}
use Rattle.sync_record.specs.Devices.{Identity}
use Rattle.device_text.specs.declared.fault.DeviceFault.{DeviceFault}
use Rattle.device_text.specs.declared.fault.DeviceFault.TheVariants.{Check}
use Rattle.device_text.specs.Base32.{identity_of}
use Rattle.device_text.specs.Read.{IsChecked, without_checks}
use Rattle.device_text.specs.Found.{is_checked, checked}

abbrev by_tests : Bool → Bool → Bool → Bool → Identity → Result Identity DeviceFault
by_tests a b c d identity = cond (not a) (Err (Check 1)) (cond (not b) (Err (Check 2)) (cond (not c) (Err (Check 3)) (cond (not d) (Err (Check 4)) (Ok identity))))

passed : (a b c d : Bool) (found identity : Identity) → by_tests a b c d found ≡ Ok identity
    → (a ≡ true) × (b ≡ true) × (c ≡ true) × (d ≡ true) × (found ≡ identity)
passed true true true true found identity e = (refl, refl, refl, refl, cc)
passed false b c d found identity e = cc e
passed true false c d found identity e = cc e
passed true true false d found identity e = cc e
passed true true true false found identity e = cc e

yes : (vs : List ℕ) (n : ℕ) → IsChecked vs n → is_checked vs n ≡ true
yes vs n h = eq-eqb _ _ h

no : (vs : List ℕ) (n : ℕ) → (IsChecked vs n → ⊥) → is_checked vs n ≡ false
no vs n h = ne_eqb _ _ h

pub checked_ok : (vs : List ℕ) → ((n : ℕ) → n < 4 → IsChecked vs n) → checked vs ≡ Ok (identity_of (without_checks vs))
checked_ok vs h =
    rw (yes vs 0 (h 0 (omega arith)), yes vs 1 (h 1 (omega arith)), yes vs 2 (h 2 (omega arith)), yes vs 3 (h 3 (omega arith))) refl

pub checked_err : (vs : List ℕ) (n : ℕ) → n < 4 → ((m : ℕ) → m < n → IsChecked vs m) → (IsChecked vs n → ⊥) → checked vs ≡ Err (Check (n + 1))
checked_err vs zero l before h = rw (no vs 0 h) refl
checked_err vs (suc zero) l before h = rw (yes vs 0 (before 0 (omega arith)), no vs 1 h) refl
checked_err vs (suc (suc zero)) l before h = rw (yes vs 0 (before 0 (omega arith)), yes vs 1 (before 1 (omega arith)), no vs 2 h) refl
checked_err vs (suc (suc (suc zero))) l before h =
    rw (yes vs 0 (before 0 (omega arith)), yes vs 1 (before 1 (omega arith)), yes vs 2 (before 2 (omega arith)), no vs 3 h) refl
checked_err vs (suc (suc (suc (suc n)))) l before h = absurd (omega arith)

all_checked : (vs : List ℕ) → is_checked vs 0 ≡ true → is_checked vs 1 ≡ true → is_checked vs 2 ≡ true → is_checked vs 3 ≡ true
    → (n : ℕ) → n < 4 → IsChecked vs n
all_checked vs a b c d zero l = eqb-true _ _ a
all_checked vs a b c d (suc zero) l = eqb-true _ _ b
all_checked vs a b c d (suc (suc zero)) l = eqb-true _ _ c
all_checked vs a b c d (suc (suc (suc zero))) l = eqb-true _ _ d
all_checked vs a b c d (suc (suc (suc (suc n)))) l = absurd (omega arith)

pub checked_is : (vs : List ℕ) (identity : Identity) → checked vs ≡ Ok identity
    → ((n : ℕ) → n < 4 → IsChecked vs n) × (identity_of (without_checks vs) ≡ identity)
checked_is vs identity e =
    let p = passed (is_checked vs 0) (is_checked vs 1) (is_checked vs 2) (is_checked vs 3) (identity_of (without_checks vs)) identity e in
    (all_checked vs p.0 p.1 p.2 p.3, p.4)
