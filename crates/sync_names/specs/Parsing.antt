-- What making a safe name returns (own rule).
use Rattle.std.specs.Prelude.{◌≡◌, ◌≢◌, ℕ, List, Some, None, Result, MatchResult, ⊤, chars}
use Rattle.unicode_normalization.specs.Forms.{Nfc}
use Rattle.unicode_normalization.specs.QuickCheck.{Maybe, quick_check_text}
use Rattle.sync_names.specs.declared.fault.NameFault.{NameFault}
use Rattle.sync_names.specs.declared.fault.NameFault.TheVariants.{OutOfMemory}
use Rattle.sync_names.specs.Refusal.{refusal}

-- the fault is the text's first refusal, or out of memory
abbrev pub IsToldOf : List ℕ → NameFault → Type 0
IsToldOf text OutOfMemory = ⊤
IsToldOf text fault = refusal text ≡ Some fault

-- the text unchanged if no test refuses it, else its first refusal; or out of memory
abbrev pub ParsesTo : List ℕ → Result (List ℕ) NameFault → Type 0
ParsesTo text result = MatchResult result (λ name. (refusal text ≡ None) × (name ≡ text)) (IsToldOf text)

-- the quick check decides whether the text is in the form NFC (Unicode Standard Annex 15, section 9), as it does of
-- every text without a character that may combine with one before it
abbrev pub IsQuick : List ℕ → Type 0
IsQuick text = quick_check_text Nfc (chars text) ≢ Maybe
