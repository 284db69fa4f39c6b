-- The folders of a document.
use Rattle.std.specs.Prelude.{ℕ, ◌+◌, Bool, List, [], ◌∷◌, ◌++◌, length, bytes_eq, ◌==◌, if◌then◌else◌, unsigned_abs, Result, Ok, Err}
use Rattle.std.specs.List.{list_any}
use Rattle.toml.specs.Data.{Data, Items, no_items, item, Members, get_member}
use Rattle.node_config.specs.Keys.{key_name}
use Rattle.node_config.specs.Modes.{mode_at}
use Rattle.node_config.specs.Paths.{path_at}
use Rattle.node_config.specs.Values.{◌>>=◌, text_at, number_at, table_of, tables_of}
use Rattle.node_config.specs.declared.config.FolderConfig.{FolderConfig}
use Rattle.node_config.specs.declared.fault.ConfigFault.{ConfigFault}
use Rattle.node_config.specs.declared.fault.ConfigFault.TheVariants.{BadKey}
use Rattle.node_config.specs.declared.folder_numbers.FolderNumber.TheVariants.{HistoryLimit, MaxConflicts, Rescan, Look, TrashDays}
use Rattle.node_config.specs.declared.folders.FileRules.{FileRules}
use Rattle.node_config.specs.declared.folders.Numbers.{Numbers}
use Rattle.node_config.specs.declared.key.Key.TheVariants.{Folder as FolderKey, Id, Path}
use Rattle.node_config.specs.declared.key.TablePlace.{TablePlace}
use Rattle.node_config.specs.declared.key.TablePlace.TheVariants.{Folder}
use Rattle.node_config.specs.declared.key.Problem.TheVariants.{Empty, Repeats}

-- the folder has this id
abbrev pub has_id : List ℕ → FolderConfig → Bool
has_id id folder = bytes_eq folder.id id

-- an id that is not empty, and not that of an earlier folder
abbrev pub checked_id : List FolderConfig → TablePlace → List ℕ → Result (List ℕ) ConfigFault
checked_id earlier place id =
    if length id == 0 then Err (BadKey place Id Empty)
    else if list_any (has_id id) earlier then Err (BadKey place Id Repeats)
    else Ok id

abbrev pub id_at : List FolderConfig → Members → TablePlace → Result (List ℕ) ConfigFault
id_at earlier table place = text_at table place Id >>= checked_id earlier place

-- the numbers of a table
abbrev pub numbers_of : Members → TablePlace → Result Numbers ConfigFault
numbers_of table place = do
  history_limit ← number_at table place HistoryLimit
  max_conflicts ← number_at table place MaxConflicts
  rescan ← number_at table place Rescan
  look ← number_at table place Look
  Ok (record { history_limit = unsigned_abs history_limit; max_conflicts = max_conflicts; rescan = unsigned_abs rescan; look = look })

-- what a table says of files that are replaced, and of new ones
abbrev pub files_of : Members → TablePlace → Result FileRules ConfigFault
files_of table place = do
  trash_days ← number_at table place TrashDays
  mode ← mode_at table place
  Ok (record { trash_days = unsigned_abs trash_days; mode = mode })

-- a folder with these numbers and rules
abbrev pub with_numbers : List ℕ → List ℕ → Numbers → FileRules → FolderConfig
with_numbers id path n files = record { id = id; path = path; history_limit = n.history_limit; max_conflicts = n.max_conflicts; rescan = n.rescan; look = n.look; trash_days = files.trash_days; mode = files.mode }

-- the folder of a table, after the earlier ones
abbrev pub folder_of : List FolderConfig → Data → Result FolderConfig ConfigFault
folder_of earlier value = do
  table ← table_of FolderKey value
  id ← id_at earlier table (Folder (length earlier + 1))
  path ← path_at table (Folder (length earlier + 1)) Path
  numbers ← numbers_of table (Folder (length earlier + 1))
  files ← files_of table (Folder (length earlier + 1))
  Ok (with_numbers id path numbers files)

-- the earlier folders, and those of the tables
abbrev pub folders_after : List FolderConfig → Items → Result (List FolderConfig) ConfigFault
folders_after earlier no_items = Ok earlier
folders_after earlier (item value values) = folder_of earlier value >>= λ folder. folders_after (earlier ++ folder ∷ []) values

abbrev pub folders_at : Members → Result (List FolderConfig) ConfigFault
folders_at document = tables_of FolderKey (get_member (key_name FolderKey) document) >>= folders_after []
