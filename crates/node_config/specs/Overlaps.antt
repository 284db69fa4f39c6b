-- Which paths of a configuration lie within others (own rule). Paths are canonical: absolute, without links, `.`, `..` and a slash at the end.
use Rattle.std.specs.Prelude.{◌≡◌, ◌⊎◌, ℕ, ◌+◌, Bool, true, false, ◌||◌, ◌&&◌, List, [], ◌∷◌, ◌++◌, length, bytes_eq, nat_eq, codes, get_or, Option, Some, None, Result, Ok, Err, if◌then◌else◌, slice_get, ◌==◌}
use Rattle.std.specs.List.{position, starts_with}
use Rattle.node_config.specs.declared.fault.ConfigFault.{ConfigFault}
use Rattle.node_config.specs.declared.fault.ConfigFault.TheVariants.{BadKey}
use Rattle.node_config.specs.declared.key.Key.TheVariants.{Path, State, Status}
use Rattle.node_config.specs.declared.key.TablePlace.TheVariants.{Folder, Node}
use Rattle.node_config.specs.declared.key.Problem.{Problem}
use Rattle.node_config.specs.declared.key.Problem.TheVariants.{Inside as IsInside, OfConfig, OfState}
use Rattle.node_config.specs.declared.overlap.Overlap.{Overlap}
use Rattle.node_config.specs.declared.overlap.Overlap.TheVariants.{Inside, StateIn}

-- what stands before the slash that follows a path: the root has none but its own
abbrev pub stem : List ℕ → List ℕ
stem path = if bytes_eq path (codes "/") then [] else path

-- there is a slash
abbrev pub is_slash : Option ℕ → Bool
is_slash None = false
is_slash (Some byte) = byte == 47

-- the path is the outer one, or goes on after it with a slash
abbrev pub is_within : List ℕ → List ℕ → Bool
is_within inner outer = bytes_eq inner outer
    || (starts_with nat_eq inner (stem outer) && is_slash (slice_get inner (length (stem outer))))

-- the same as a fact: all that is absolute lies within the root
abbrev pub IsWithin : List ℕ → List ℕ → Type 0
IsWithin inner outer = (inner ≡ outer) ⊎ ((rest : List ℕ) × (inner ≡ stem outer ++ 47 ∷ rest))

-- one of two folders lies within the other
abbrev pub are_within : List ℕ → List ℕ → Bool
are_within folder other = is_within folder other || is_within other folder

-- and which one, by their numbers
abbrev pub overlap_of : ℕ → List ℕ → ℕ → List ℕ → Overlap
overlap_of number folder earlier other = if is_within folder other then Inside number earlier else Inside earlier number

-- the folder after the earlier ones, and the one at a place that it overlaps; folders are counted from 1
abbrev pub with_earlier : List (List ℕ) → List ℕ → Option ℕ → Option Overlap
with_earlier earlier folder None = None
with_earlier earlier folder (Some place) = Some (overlap_of (length earlier + 1) folder (place + 1) (get_or earlier place []))

-- the first
abbrev pub or_else : Option Overlap → Option Overlap → Option Overlap
or_else (Some overlap) other = Some overlap
or_else None other = other

-- the first of the folders that overlaps one before it
abbrev pub first_nested : List (List ℕ) → List (List ℕ) → Option Overlap
first_nested earlier [] = None
first_nested earlier (folder ∷ folders) =
    or_else (with_earlier earlier folder (position (are_within folder) earlier)) (first_nested (earlier ++ folder ∷ []) folders)

-- the first of the folders that the state lies within
abbrev pub state_in : Option ℕ → Option Overlap
state_in None = None
state_in (Some place) = Some (StateIn (place + 1))

-- the first folder that overlaps an earlier one, with the first of these; where there is none, the state and the first folder that it lies within
abbrev pub first_overlap : List (List ℕ) → List ℕ → Option Overlap
first_overlap folders state = or_else (first_nested [] folders) (state_in (position (is_within state) folders))

-- how it is said: the inner path is wrong
abbrev pub fault_of : Overlap → ConfigFault
fault_of (Inside inner outer) = BadKey (Folder inner) Path (IsInside outer)
fault_of (StateIn folder) = BadKey Node State (IsInside folder)

abbrev pub checked : Option Overlap → Result (Unit {0}) ConfigFault
checked None = Ok tt
checked (Some overlap) = Err (fault_of overlap)

-- there is a dot
abbrev pub is_dot : Option ℕ → Bool
is_dot None = false
is_dot (Some byte) = byte == 46

-- the path is that of the state, or of a file beside it: it goes on after it with a dot
abbrev pub is_beside : List ℕ → List ℕ → Bool
is_beside path state = bytes_eq path state || (starts_with nat_eq path state && is_dot (slice_get path (length state)))

-- a page would take the place of the configuration, of the state, or of a file beside that
abbrev pub place_problem : Bool → Bool → Option Problem
place_problem true _ = Some OfConfig
place_problem false true = Some OfState
place_problem false false = None

-- or it lies within the folder at a place, if there is one
abbrev pub within_problem : Option ℕ → Option Problem → Option Problem
within_problem None other = other
within_problem (Some place) other = Some (IsInside (place + 1))

-- what is wrong with the path of a page
abbrev pub page_problem : List (List ℕ) → List ℕ → List ℕ → List ℕ → Option Problem
page_problem folders config state page =
    within_problem (position (is_within page) folders) (place_problem (bytes_eq page config) (is_beside page state))

abbrev pub page_checked : Option Problem → Result (Unit {0}) ConfigFault
page_checked None = Ok tt
page_checked (Some problem) = Err (BadKey Node Status problem)
