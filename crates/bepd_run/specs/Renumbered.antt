-- The index ids of a state, drawn anew (own rule).
use Rattle.std.specs.Prelude.{ℕ, List, bytes_eq, length, map, position, replicate, slice_get, Option, Some, None}
use Rattle.node_config.specs.declared.config.Config.{Config}
use Rattle.node_config.specs.declared.config.FolderConfig.{FolderConfig}
use Rattle.node_state.specs.declared.state.StoredFolder.{StoredFolder}

abbrev pub place_of : List ℕ → List FolderConfig → Option ℕ
place_of id folders = position (λ f. bytes_eq f.id id) folders

abbrev pub number_at : List ℕ → Option ℕ → Option ℕ
number_at numbers None = None
number_at numbers (Some place) = slice_get numbers place

-- the number at the place of the configuration's folder with this id
abbrev pub number_of : Config → List ℕ → List ℕ → Option ℕ
number_of config numbers id = number_at numbers (place_of id config.folders)

abbrev pub with_number : StoredFolder → Option ℕ → StoredFolder
with_number f None = f
with_number f (Some number) = record f { index_id = number }

-- a stored folder, under the number at its place; one that the configuration lacks stays as it is
abbrev pub renumbered : Config → List ℕ → StoredFolder → StoredFolder
renumbered config numbers f = with_number f (number_of config numbers f.id)

-- all stored folders, those of the configuration under this number
abbrev pub all_renumbered : Config → ℕ → List StoredFolder → List StoredFolder
all_renumbered config number folders = map (renumbered config (replicate (length config.folders) number)) folders
