-- Where a path leads from a folder, both as lists of components: pathname resolution where no component is a link
-- (POSIX.1, section 4.16).
use Rattle.std.specs.Prelude.{ℕ, ◌||◌, nat_eq, List, [], ◌∷◌, ◌++◌, codes, bytes_eq, fold, if◌then◌else◌}
use Rattle.std.specs.List.{starts_with}
use Rattle.sync_names.specs.Components.{components, all_but_last}

-- an empty component and `.` stay, `..` goes up, and any other goes down
abbrev pub step : List (List ℕ) → List ℕ → List (List ℕ)
step at component =
    if bytes_eq component [] || bytes_eq component (codes ".") then at
    else if bytes_eq component (codes "..") then all_but_last at else at ++ component ∷ []

abbrev pub walk : List (List ℕ) → List (List ℕ) → List (List ℕ)
walk at parts = fold step at parts

-- a path that begins with `/` starts at the root
abbrev pub start_of : List (List ℕ) → List ℕ → List (List ℕ)
start_of folder text = if starts_with nat_eq text (codes "/") then [] else folder

abbrev pub leads_to : List (List ℕ) → List ℕ → List (List ℕ)
leads_to folder text = walk (start_of folder text) (components text)
