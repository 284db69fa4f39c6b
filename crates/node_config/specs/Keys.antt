-- How the document writes its keys.
use Rattle.std.specs.Prelude.{ℕ, List, [], ◌∷◌, codes}
use Rattle.node_config.specs.declared.key.Key.{Key}
use Rattle.node_config.specs.declared.key.Key.TheVariants.{Device, Name, State, Status, Folder, Peer, Id, Path, HistoryLimit, MaxConflicts, Rescan, Look, TrashDays, Mode, Folders, Dial, Listen}
use Rattle.node_config.specs.declared.key.TablePlace.{TablePlace}
use Rattle.node_config.specs.declared.key.TablePlace.TheVariants as place

abbrev pub key_name : Key → List ℕ
key_name Device = codes "device"
key_name Name = codes "name"
key_name State = codes "state"
key_name Status = codes "status"
key_name Folder = codes "folder"
key_name Peer = codes "peer"
key_name Id = codes "id"
key_name Path = codes "path"
key_name HistoryLimit = codes "history_limit"
key_name MaxConflicts = codes "max_conflicts"
key_name Rescan = codes "rescan"
key_name Look = codes "look"
key_name TrashDays = codes "trash_days"
key_name Mode = codes "mode"
key_name Folders = codes "folders"
key_name Dial = codes "dial"
key_name Listen = codes "listen"

-- the keys of a table, in the order of the page that lists them
abbrev pub keys_of : TablePlace → List Key
keys_of place.Node = Device ∷ Name ∷ State ∷ Status ∷ Folder ∷ Peer ∷ []
keys_of (place.Folder number) = Id ∷ Path ∷ HistoryLimit ∷ MaxConflicts ∷ Rescan ∷ Look ∷ TrashDays ∷ Mode ∷ []
keys_of (place.Peer number) = Device ∷ Folders ∷ Dial ∷ Listen ∷ []
