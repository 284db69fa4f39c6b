-- How a run is asked from elsewhere, and what it answers (own rule).
use Rattle.std.specs.Prelude.{◌≡◌, ◌⊎◌, ℕ, List, [], ◌++◌, Option, Some, None, codes}
use Rattle.std.specs.Borrow.{Bor}
use Rattle.std.specs.Str.Iter.{HasSubslice}

-- the line by which a command is asked for
abbrev pub question : List ℕ → Option (Bor (List ℕ)) → List ℕ
question word (Some folder) = word ++ (codes " " ++ (folder.now ++ codes "\n"))
question word None = word ++ codes "\n"

-- the line asks for a scan
abbrev pub IsScan : List ℕ → Type 0
IsScan line = (folder : List ℕ) × (line ≡ codes "scan " ++ folder)

-- lines with their line feeds, or none
abbrev pub AreLines : List ℕ → Type 0
AreLines text = (text ≡ []) ⊎ ((front : List ℕ) × (text ≡ front ++ codes "\n"))

-- what was read is this answer, whole: its lines, and then a full stop on a line of its own
abbrev pub IsAnswer : List ℕ → List ℕ → Type 0
IsAnswer text read = (read ≡ text ++ codes ".\n") × AreLines text

-- an answer says that its command was not done, or not to its end: a line of it begins so
abbrev pub IsNotDone : List ℕ → Type 0
IsNotDone text = ((rest : List ℕ) × (text ≡ codes "error " ++ rest))
    ⊎ HasSubslice text (codes "\nerror ")
