-- The paths of a document.
use Rattle.std.specs.Prelude.{ℕ, Bool, List, ◌||◌, length, ◌==◌, bytes_eq, nat_eq, codes, if◌then◌else◌, Option, Some, None, Result, Ok, Err}
use Rattle.std.specs.List.{starts_with}
use Rattle.toml.specs.Data.{Data, Members, get_member}
use Rattle.node_config.specs.Keys.{key_name}
use Rattle.node_config.specs.Values.{◌>>=◌, text_at, text_of}
use Rattle.node_config.specs.declared.fault.ConfigFault.{ConfigFault}
use Rattle.node_config.specs.declared.fault.ConfigFault.TheVariants.{BadKey}
use Rattle.node_config.specs.declared.key.Key.{Key}
use Rattle.node_config.specs.declared.key.TablePlace.{TablePlace}
use Rattle.node_config.specs.declared.key.Problem.TheVariants.{Empty, BeginsWithTilde}

-- a shell reads the path as one in the home directory
abbrev pub is_of_home : List ℕ → Bool
is_of_home path = bytes_eq path (codes "~") || starts_with nat_eq path (codes "~/")

-- a path that is not empty, and that means without a shell what it means with one
abbrev pub checked_path : TablePlace → Key → List ℕ → Result (List ℕ) ConfigFault
checked_path place key path =
    if length path == 0 then Err (BadKey place key Empty)
    else if is_of_home path then Err (BadKey place key BeginsWithTilde)
    else Ok path

abbrev pub path_at : Members → TablePlace → Key → Result (List ℕ) ConfigFault
path_at table place key = text_at table place key >>= checked_path place key

-- the path of a key that may be absent
abbrev pub path_if_there : TablePlace → Key → Option Data → Result (Option (List ℕ)) ConfigFault
path_if_there place key None = Ok None
path_if_there place key (Some value) = do
  text ← text_of place key value
  path ← checked_path place key text
  Ok (Some path)

abbrev pub optional_path_at : Members → TablePlace → Key → Result (Option (List ℕ)) ConfigFault
optional_path_at table place key = path_if_there place key (get_member (key_name key) table)
