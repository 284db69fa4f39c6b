-- Writes that are made again.
use Rattle.std.proofs.Common.{ℕ, List, ◌++◌, take, Option, Some, None, Result, Ok, Err, ap, ◌∙◌}
use Rattle.std.proofs.KnownBytes.{Keeps-trans}
use Rattle.std.specs.Io.KnownBytes.{Appends, Keeps, WriteAppends}

keeps_appends : (a b c : Option (List ℕ)) (bytes : List ℕ) → Keeps a b → Appends b c bytes → Appends a c bytes
keeps_appends None b c bytes k p = tt
keeps_appends (Some xs) None c bytes k p = absurd k
keeps_appends (Some xs) (Some ys) None bytes k p = absurd p
keeps_appends (Some xs) (Some ys) (Some zs) bytes k p = p ∙ ap (λ l. l ++ bytes) k

-- a write after writes that took nothing
pub write_later : {E : Type 0} → (a b c : Option (List ℕ)) (r : Result ℕ E) (bytes : List ℕ) → Keeps a b → WriteAppends b c r bytes → WriteAppends a c r bytes
write_later a b c (Ok n) bytes k p = keeps_appends a b c (take n bytes) k p
write_later a b c (Err e) bytes k p = Keeps-trans a b c k p
