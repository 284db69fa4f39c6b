-- The paths of a configuration, as a run takes them (own rule).
use Rattle.std.specs.Prelude.{ℕ, Bool, false, ◌||◌, List, [], ◌∷◌, ◌++◌, ◌==◌, nat_eq, codes, if◌then◌else◌}
use Rattle.std.specs.List.{starts_with}

abbrev pub has_slash : List ℕ → Bool
has_slash [] = false
has_slash (byte ∷ rest) = byte == 47 || has_slash rest

-- a path up to its last slash, with it: what begins it and has a slash in it or after it
abbrev pub directory_of : List ℕ → List ℕ
directory_of [] = []
directory_of (byte ∷ rest) = if has_slash (byte ∷ rest) then byte ∷ directory_of rest else []

-- a relative path begins at the directory of the configuration
abbrev pub placed_path : List ℕ → List ℕ → List ℕ
placed_path config path = if starts_with nat_eq path (codes "/") then path else directory_of config ++ path
