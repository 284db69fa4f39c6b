-- Names of files and directories: components with '/' between them (own rule).
use Rattle.std.specs.Prelude.{ℕ, Bool, false, ◌&&◌, ◌==◌, List, [], ◌∷◌}

abbrev pub Name : Type 0
Name = List ℕ

-- the first name is a directory on the way to the second, which goes on after it with '/'
abbrev pub is_parent : Name → Name → Bool
is_parent [] [] = false
is_parent [] (y ∷ ys) = y == 47
is_parent (x ∷ xs) [] = false
is_parent (x ∷ xs) (y ∷ ys) = (x == y) && is_parent xs ys
