-- A component's stem and extension: it is cut before its last dot (own rule).
use Rattle.std.specs.Prelude.{ℕ, ◌==◌, List, [], ◌∷◌, if◌then◌else◌}
use Rattle.std.specs.List.{list_any, before_last, after_last}

-- the part before the last dot, or the whole component if it has none
abbrev pub stem_of : List ℕ → List ℕ
stem_of component =
    if list_any (λ b. b == 46) component then before_last (λ b. b == 46) component else component

-- the last dot and what follows it, or nothing
abbrev pub extension_of : List ℕ → List ℕ
extension_of component =
    if list_any (λ b. b == 46) component then 46 ∷ after_last (λ b. b == 46) component else []
