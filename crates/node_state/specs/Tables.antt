-- The messages of a state file as tables (own rule). A number that a table lacks is an unknown field.
use Rattle.bep_messages.specs.Tables.{◌▹◌, ◌is◌, ◌holds◌, ◌lists◌, Table, End, Int64, Uint64, Words, Digest}
use Rattle.bep_messages.specs.Protocol.{file_info_table}

-- what a device announces of a name
abbrev pub entry_table : Table
entry_table =
    (1 is Digest)  -- device
    ▹ (2 holds file_info_table)  -- file
    ▹ End

-- the index id of a peer
abbrev pub peer_table : Table
peer_table =
    (1 is Digest)  -- device
    ▹ (2 is Uint64)  -- index_id
    ▹ End

abbrev pub folder_table : Table
folder_table =
    (1 is Words)  -- id
    ▹ (2 is Uint64)  -- index_id
    ▹ (3 is Int64)  -- last
    ▹ (4 lists entry_table)  -- entries
    ▹ (5 lists peer_table)  -- peers
    ▹ End

abbrev pub state_table : Table
state_table =
    (1 lists folder_table)  -- folders
    ▹ End

-- ---- version 1, which has no peers

abbrev pub first_folder_table : Table
first_folder_table =
    (1 is Words)  -- id
    ▹ (2 is Uint64)  -- index_id
    ▹ (3 is Int64)  -- last
    ▹ (4 lists entry_table)  -- entries
    ▹ End

abbrev pub first_state_table : Table
first_state_table =
    (1 lists first_folder_table)  -- folders
    ▹ End
