-- Whose a folder's marker is (own rule).
use Rattle.std.specs.Prelude.{ℕ, ◌+◌, ◌==◌, Bool, false, true, nat_eq, nat_lt, not, ◌&&◌, if◌then◌else◌, bytes_eq, List, length, Option, Some, None}
use Rattle.std.specs.Borrow.{Bor}
use Rattle.std.specs.List.{ends_with, list_any}
use Rattle.folder_core.specs.declared.counts.Counts.{Counts}
use Rattle.node_state.specs.declared.state.StoredFolder.{StoredFolder}
use Rattle.bepd_run.specs.declared.recorded.Recorded.{Recorded}
use Rattle.bepd_run.specs.declared.recorded.Recorded.TheVariants.{Names, NoNames, Nothing}

-- a folder of this id is stored
abbrev pub is_stored : List ℕ → List StoredFolder → Bool
is_stored id folders = list_any (λ f. bytes_eq f.id id) folders

-- files or directories are recorded, which are to be there; or none are, of a folder that is stored or isn't
abbrev pub recorded_of : Bool → Counts → Recorded
recorded_of is_stored counts = if nat_lt 0 (counts.files + counts.directories) then Names else if is_stored then NoNames else Nothing

abbrev pub has_names : Recorded → Bool
has_names Names = true
has_names _ = false

abbrev pub has_nothing : Recorded → Bool
has_nothing Nothing = true
has_nothing _ = false

-- What is at a folder's path isn't the folder. No run made its marker, and names are recorded of the folder. Or a run made it for another folder, or as another device:
-- it has a text that is neither empty nor this folder's. (Files that another device had of the same folder are taken where nothing is stored of it.)
abbrev pub is_elsewhere : Recorded → Option (Bor (List ℕ)) → List ℕ → List ℕ → Bool
is_elsewhere recorded None own folder = has_names recorded
is_elsewhere recorded (Some text) own folder =
    not (length text.now == 0) && not (bytes_eq text.now own) && not (has_nothing recorded && ends_with nat_eq text.now folder)
