-- Fronts of bytes that were written.
use Rattle.std.proofs.Common.{ℕ, ◌+◌, ◌-◌, List, length, take, drop, Option, sym, subst}
use Rattle.std.proofs.KnownBytes.{Appends-trans}
use Rattle.std.proofs.lemmas.List.{take_rest}
use Rattle.std.proofs.Math.Seq.{take-add}
use Rattle.std.specs.Io.KnownBytes.{Appends}

-- a front was written, and then the front of what was left
pub appends_more : (a b c : Option (List ℕ)) (bytes : List ℕ) (at count : ℕ) → Appends a b (take at bytes) → Appends b c (take count (take (length bytes - at) (drop at bytes)))
    → Appends a c (take (at + count) bytes)
appends_more a b c bytes at count put more =
    let piece = take count (drop at bytes) in
    let last : Appends b c piece = subst (λ l. Appends b c (take count l)) (take_rest bytes at) more in
    subst (Appends a c) (sym (take-add at count bytes)) (Appends-trans a b c (take at bytes) piece put last)
