-- The components of a name: the parts of its text between the slashes (own rule).
use Rattle.std.specs.Prelude.{ℕ, ◌==◌, List, [], ◌∷◌, ◌++◌}
use Rattle.std.specs.List.{slice_split}

-- the text cut at each `/`: at least one part, and parts may be empty
abbrev pub components : List ℕ → List (List ℕ)
components text = slice_split (λ b. b == 47) text

abbrev pub first_of : List (List ℕ) → List ℕ
first_of [] = []
first_of (part ∷ parts) = part

abbrev pub last_of : List (List ℕ) → List ℕ
last_of [] = []
last_of (part ∷ []) = part
last_of (part ∷ next ∷ parts) = last_of (next ∷ parts)

-- the parts without the last one
abbrev pub all_but_last : List (List ℕ) → List (List ℕ)
all_but_last [] = []
all_but_last (part ∷ []) = []
all_but_last (part ∷ next ∷ parts) = part ∷ all_but_last (next ∷ parts)

abbrev pub last_component : List ℕ → List ℕ
last_component text = last_of (components text)

-- the components of the name's folder
abbrev pub folder_components : List ℕ → List (List ℕ)
folder_components text = all_but_last (components text)

-- each of the components with a slash after it
abbrev pub folder_text : List (List ℕ) → List ℕ
folder_text [] = []
folder_text (part ∷ parts) = part ++ 47 ∷ folder_text parts

-- the text up to and with its last slash
abbrev pub folder_of : List ℕ → List ℕ
folder_of text = folder_text (folder_components text)

-- another name in the same folder
abbrev pub with_last_component : List ℕ → List ℕ → List ℕ
with_last_component text last = folder_of text ++ last
