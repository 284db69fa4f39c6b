-- Texts, and bytes that are none.
use Rattle.std.proofs.Common.{◌≡◌, ◌<◌, ℕ, Bool, true, false, List, [], ◌∷◌, length, Option, Some, None, refl, arith, if◌then◌else◌}
use Rattle.std.specs.Str.{IsUtf8, is_utf8}
use Rattle.std.proofs.lemmas.Str.{IsUtf8-from_is_utf8, is_utf8-from_IsUtf8}
use Rattle.std.proofs.lemmas.Bool.{false_from_ne_true}
use Rattle.bep_messages.specs.declared.fault.MessageFault.{MessageFault}
use Rattle.bep_messages.specs.declared.fault.MessageFault.TheVariants.{NotUtf8}
use Rattle.bep_messages.specs.Faults.{text_fault}

pub text_fits : (bytes : List ℕ) → IsUtf8 bytes → text_fault bytes ≡ None
text_fits bytes h = rw (is_utf8-from_IsUtf8 bytes h) refl

pub no_text : (bytes : List ℕ) → (IsUtf8 bytes → ⊥) → text_fault bytes ≡ Some NotUtf8
no_text bytes h = rw (false_from_ne_true (is_utf8 bytes) (λ e. h (IsUtf8-from_is_utf8 bytes e))) refl

passes : (b : Bool) → let tested : Option MessageFault = if b then None else Some NotUtf8 in tested ≡ None → b ≡ true
passes true e = refl
passes false e = absurd cc

pub is_text : (bytes : List ℕ) → text_fault bytes ≡ None → IsUtf8 bytes
is_text bytes e = IsUtf8-from_is_utf8 bytes (passes (is_utf8 bytes) e)

pub some_bytes : (bytes : List ℕ) → (bytes ≡ [] → ⊥) → 0 < length bytes
some_bytes [] h = absurd (h refl)
some_bytes (b ∷ bytes) h = omega arith
