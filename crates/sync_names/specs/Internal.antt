-- Names that a folder keeps for itself (own rule).
use Rattle.std.specs.Prelude.{◌≡◌, ◌⊎◌, ℕ, Bool, ◌||◌, ◌&&◌, nat_le, nat_eq, List, ◌++◌, length, codes, bytes_eq}
use Rattle.std.specs.List.{starts_with, ends_with}
use Rattle.sync_names.specs.Components.{components, first_of, last_component}

abbrev pub is_reserved : List ℕ → Bool
is_reserved component =
    bytes_eq component (codes ".stfolder") || bytes_eq component (codes ".stignore")
    || bytes_eq component (codes ".stversions")

-- at least 15 bytes, so that the beginning and the end don't overlap
abbrev pub is_temporary : List ℕ → Bool
is_temporary component =
    nat_le 15 (length component) && starts_with nat_eq component (codes ".syncthing.")
    && ends_with nat_eq component (codes ".tmp")

abbrev pub is_internal : List ℕ → Bool
is_internal text = is_reserved (first_of (components text)) || is_temporary (last_component text)

-- the same as facts
abbrev pub IsReserved : List ℕ → Type 0
IsReserved component =
    (component ≡ codes ".stfolder") ⊎ (component ≡ codes ".stignore") ⊎ (component ≡ codes ".stversions")

abbrev pub IsTemporary : List ℕ → Type 0
IsTemporary component =
    (middle : List ℕ) × (component ≡ codes ".syncthing." ++ middle ++ codes ".tmp")

abbrev pub IsInternal : List ℕ → Type 0
IsInternal text = IsReserved (first_of (components text)) ⊎ IsTemporary (last_component text)
