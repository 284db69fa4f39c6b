-- Texts that are shown.
use Rattle.std.proofs.Common.{◌≡◌, ◌≢◌, ◌⊎◌, ℕ, ◌<◌, ◌≤◌, false, List, [], ◌∷◌, ◌++◌, length, sym, ap, ◌∙◌, arith, append_assoc, encode_utf8}
use Rattle.std.specs.List.{flat_map}
use Rattle.std.specs.Str.{IsUtf8, chars}
use Rattle.std.proofs.lemmas.Bool.Decides.{nat_tests}
use Rattle.std.proofs.lemmas.List.{append-nil}
use Rattle.std.proofs.lemmas.Str.{chars_past_char}
use Rattle.node_status.specs.Screen.{is_escaped, escaped, shown_text}

-- neither a control nor the backslash
pub not_escaped : (c : ℕ) → 32 ≤ c → c ≢ 92 → (c < 127) ⊎ (160 ≤ c) → is_escaped c ≡ false
not_escaped c low other high = grind (arith, nat_tests)

-- one character more
pub shown_more : (old new text rest : List ℕ) (c : ℕ) → IsUtf8 text → text ≡ encode_utf8 c ++ rest → new ≡ old ++ escaped c
    → new ++ shown_text rest ≡ old ++ shown_text text
shown_more old new text rest c is divided pushed =
    ap (λ v. v ++ shown_text rest) pushed ∙ append_assoc old (escaped c) (shown_text rest)
    ∙ sym (ap (λ v. old ++ flat_map escaped v) (chars_past_char text rest c is divided))

-- and none
pub shown_end : (old new text rest : List ℕ) → length rest ≡ 0 → new ++ shown_text rest ≡ old ++ shown_text text → new ≡ old ++ shown_text text
unfolding chars
shown_end old new text [] none pushed = sym (append-nil new) ∙ pushed
shown_end old new text (b ∷ bs) none pushed = absurd (omega arith)
