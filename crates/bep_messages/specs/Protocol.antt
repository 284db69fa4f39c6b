-- The messages of the Block Exchange Protocol v1: its own tables.
use Rattle.bep_messages.specs.Tables.{◌▹◌, ◌is◌, ◌holds◌, ◌lists◌, texts, Table, End, Int32, Int64, Uint32, Uint64, Enum, Boolean, Words, Octets, Digest}

abbrev pub hello_table : Table
hello_table =
    (1 is Words)  -- device_name
    ▹ (2 is Words)  -- client_name
    ▹ (3 is Words)  -- client_version
    ▹ End

abbrev pub header_table : Table
header_table =
    (1 is Enum)  -- type
    ▹ (2 is Enum)  -- compression
    ▹ End

abbrev pub device_table : Table
device_table =
    (1 is Octets)  -- id
    ▹ (2 is Words)  -- name
    ▹ texts 3  -- addresses
    ▹ (4 is Enum)  -- compression
    ▹ (5 is Words)  -- cert_name
    ▹ (6 is Int64)  -- max_sequence
    ▹ (7 is Boolean)  -- introducer
    ▹ (8 is Uint64)  -- index_id
    ▹ (9 is Boolean)  -- skip_introduction_removals
    ▹ End

abbrev pub folder_table : Table
folder_table =
    (1 is Words)  -- id
    ▹ (2 is Words)  -- label
    ▹ (3 is Boolean)  -- read_only
    ▹ (4 is Boolean)  -- ignore_permissions
    ▹ (5 is Boolean)  -- ignore_delete
    ▹ (6 is Boolean)  -- disable_temp_indexes
    ▹ (7 is Boolean)  -- paused
    ▹ (16 lists device_table)  -- devices
    ▹ End

abbrev pub cluster_config_table : Table
cluster_config_table =
    (1 lists folder_table)  -- folders
    ▹ End

abbrev pub counter_table : Table
counter_table =
    (1 is Uint64)  -- id
    ▹ (2 is Uint64)  -- value
    ▹ End

abbrev pub vector_table : Table
vector_table =
    (1 lists counter_table)  -- counters
    ▹ End

abbrev pub block_info_table : Table
block_info_table =
    (1 is Int64)  -- offset
    ▹ (2 is Int32)  -- size
    ▹ (3 is Digest)  -- hash
    ▹ End

abbrev pub file_info_table : Table
file_info_table =
    (1 is Words)  -- name
    ▹ (2 is Enum)  -- type
    ▹ (3 is Int64)  -- size
    ▹ (4 is Uint32)  -- permissions
    ▹ (5 is Int64)  -- modified_s
    ▹ (6 is Boolean)  -- deleted
    ▹ (7 is Boolean)  -- invalid
    ▹ (8 is Boolean)  -- no_permissions
    ▹ (9 holds vector_table)  -- version
    ▹ (10 is Int64)  -- sequence
    ▹ (11 is Int32)  -- modified_ns
    ▹ (12 is Uint64)  -- modified_by
    ▹ (13 is Int32)  -- block_size
    ▹ (16 lists block_info_table)  -- blocks
    ▹ (17 is Octets)  -- symlink_target
    ▹ End

abbrev pub index_table : Table
index_table =
    (1 is Words)  -- folder
    ▹ (2 lists file_info_table)  -- files
    ▹ End

abbrev pub index_update_table : Table
index_update_table =
    (1 is Words)  -- folder
    ▹ (2 lists file_info_table)  -- files
    ▹ End

abbrev pub request_table : Table
request_table =
    (1 is Int32)  -- id
    ▹ (2 is Words)  -- folder
    ▹ (3 is Words)  -- name
    ▹ (4 is Int64)  -- offset
    ▹ (5 is Int32)  -- size
    ▹ (6 is Digest)  -- hash
    ▹ (7 is Boolean)  -- from_temporary
    ▹ End

abbrev pub response_table : Table
response_table =
    (1 is Int32)  -- id
    ▹ (2 is Octets)  -- data
    ▹ (3 is Enum)  -- code
    ▹ End

abbrev pub download_progress_table : Table
download_progress_table =
    End

abbrev pub ping_table : Table
ping_table =
    End

abbrev pub close_table : Table
close_table =
    (1 is Words)  -- reason
    ▹ End
