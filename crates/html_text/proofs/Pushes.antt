-- What pushes do to a page.
use Rattle.std.proofs.Common.{◌≡◌, ℕ, ◌≤◌, List, ◌++◌, length, take, ap, arith, Result, Ok, Err, String, string_bytes, string_len, is_ok, OnOk, if◌then◌else◌}
use Rattle.std.specs.Str.{IsCharBoundary}
use Rattle.std.specs.declared.alloc.AllocError.{AllocError}
use Rattle.std.proofs.Math.Seq.{take-append_seam}
use Rattle.std.proofs.lemmas.List.{length-append}
use Rattle.std.proofs.lemmas.Str.{IsCharBoundary-from_take, IsUtf8-string_bytes}
use Rattle.html_text.specs.Escaped.{Shows}

-- a piece that shows a text is pushed, or nothing is
pub pushed : (r : Result (Unit {0}) AllocError) (old new piece text : List ℕ)
    → new ≡ (if is_ok r then old ++ piece else old) → Shows piece text → OnOk r ((p : List ℕ) × (new ≡ old ++ p) × Shows p text)
pushed (Ok _) old new piece text e s = (piece, e, s)
pushed (Err _) old new piece text e s = tt

-- a page may be cut where its old bytes end
pub seam : {Z : Type 0} (old new : String Z) (piece : List ℕ) → string_bytes new ≡ string_bytes old ++ piece
    → IsCharBoundary (string_bytes new) (string_len old)
seam old new piece grown =
    let len : string_len old ≡ length (string_bytes old) = old.bytes.ok.0 in
    let front : take (length (string_bytes old)) (string_bytes new) ≡ string_bytes old = rw grown (take-append_seam (string_bytes old) piece) in
    let within : length (string_bytes old) ≤ length (string_bytes new) = omega (arith, ap length grown, length-append (string_bytes old) piece) in
    rw len (IsCharBoundary-from_take (string_bytes new) (length (string_bytes old)) (IsUtf8-string_bytes new) within (rw front (IsUtf8-string_bytes old)))
