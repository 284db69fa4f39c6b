-- The messages of a journal as tables (own rule). A number that a table lacks is an unknown field.
use Rattle.bep_messages.specs.Tables.{◌▹◌, ◌is◌, ◌holds◌, ◌lists◌, Table, End, Boolean, Int64, Uint64, Words, Digest}
use Rattle.bep_messages.specs.Protocol.{file_info_table, vector_table}

abbrev pub plan_table : Table
plan_table =
    (1 is Boolean)  -- has_base
    ▹ (2 holds vector_table)  -- base
    ▹ (3 holds file_info_table)  -- target
    ▹ End

-- field 5 is left for records of peers
abbrev pub part_table : Table
part_table =
    (1 is Words)  -- id
    ▹ (2 is Uint64)  -- index_id
    ▹ (3 is Int64)  -- last
    ▹ (4 lists file_info_table)  -- records
    ▹ (6 lists plan_table)  -- plans
    ▹ End

abbrev pub frame_table : Table
frame_table =
    (1 is Boolean)  -- is_whole
    ▹ (2 lists part_table)  -- folders
    ▹ (3 is Digest)  -- mark
    ▹ End
