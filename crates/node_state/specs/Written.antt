-- The bytes of a state (own rule): a first line that says the version, and one message.
use Rattle.std.specs.Prelude.{ℕ, pos, List, [], ◌∷◌, ◌++◌, map, filter, codes}
use Rattle.std.specs.FinMap.{entries}
use Rattle.bep_messages.specs.Forms.{form}
use Rattle.bep_messages.specs.Structs.{file_info_parts}
use Rattle.bep_messages.specs.Tables.{Values}
use Rattle.folder_core.specs.Restores.{records_of}
use Rattle.sync_record.specs.Devices.{Identity}
use Rattle.sync_record.specs.Infos.{info_of}
use Rattle.sync_record.specs.Records.{FileRecord}
use Rattle.node_state.specs.declared.state.StoredFolder.{StoredFolder}
use Rattle.node_state.specs.declared.state.State.{State}
use Rattle.node_state.specs.Peers.{Peers, is_kept}
use Rattle.node_state.specs.Tables.{entry_table, peer_table, folder_table, state_table}

-- the first lines, each with its line feed
abbrev pub first_line : List ℕ
first_line = codes "bepd state 1" ++ 10 ∷ []

abbrev pub second_line : List ℕ
second_line = codes "bepd state 2" ++ 10 ∷ []

abbrev pub entry_values : Identity × FileRecord → Values entry_table
entry_values p = (p.0, (file_info_parts (info_of p.1), tt))

abbrev pub peer_values : Identity × ℕ → Values peer_table
peer_values p = (p.0, (p.1, tt))

-- those of which a number is kept, by rising identity
abbrev pub kept_peers : Peers → List (Identity × ℕ)
kept_peers m = filter is_kept (entries m)

-- every record with its device, by name and then by device
abbrev pub folder_values : StoredFolder → Values folder_table
folder_values f = (
  f.id,
  (
    f.index_id,
    (
      pos f.folder.last,
      (
        map entry_values (records_of f.folder),
        (map peer_values (kept_peers f.peers), tt),
      ),
    ),
  ),
)

abbrev pub state_values : State → Values state_table
state_values s = (map folder_values s.folders, tt)

abbrev pub state_bytes : State → List ℕ
state_bytes s = second_line ++ form state_table (state_values s)
