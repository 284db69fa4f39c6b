-- The frame of a message (Block Exchange Protocol v1, "Pre-authentication Messages" and "Post-authentication Messages").
use Rattle.std.specs.Prelude.{ℕ, pos, List, ◌++◌, length}
use Rattle.std.specs.Int.{w16, w32, to_be_bytes}
use Rattle.bep_messages.specs.declared.hello.Hello.{Hello}
use Rattle.bep_messages.specs.Protocol.{hello_table, header_table, cluster_config_table, index_table, index_update_table, request_table, response_table, download_progress_table, ping_table, close_table}
use Rattle.bep_messages.specs.Structs.{hello_parts, cluster_config_parts, index_parts, index_update_parts, request_parts, response_parts, download_progress_parts, ping_parts, close_parts}
use Rattle.bep_messages.specs.Tables.{Table, Values}
use Rattle.bep_messages.specs.Forms.{form}
use Rattle.bep_frames.specs.declared.frame.Message.{Message}
use Rattle.bep_frames.specs.declared.frame.Message.TheVariants.{ClusterConfig, Index, IndexUpdate, Request, Response, DownloadProgress, Ping, Close}
use Rattle.bep_frames.specs.Grammar.{magic}

-- bytes after their length, in 16 bits and in 32
abbrev pub sized16 : List ℕ → List ℕ
sized16 bytes = to_be_bytes w16 (length bytes) ++ bytes

abbrev pub sized32 : List ℕ → List ℕ
sized32 bytes = to_be_bytes w32 (length bytes) ++ bytes

-- the written form of a Hello, and its frame
abbrev pub hello_body : Hello → List ℕ
hello_body m = form hello_table (hello_parts m)

abbrev pub hello_frame : Hello → List ℕ
hello_frame m = magic ++ sized16 (hello_body m)

-- a message as it is written: its type, the table of its fields, and their values
pub record Parts : Type 0 where
  pub kind : ℕ
  pub table : Table
  pub values : Values table

abbrev pub parts_of : Message → Parts
parts_of (ClusterConfig m) = record { kind = 0; table = cluster_config_table; values = cluster_config_parts m }
parts_of (Index m) = record { kind = 1; table = index_table; values = index_parts m }
parts_of (IndexUpdate m) = record { kind = 2; table = index_update_table; values = index_update_parts m }
parts_of (Request m) = record { kind = 3; table = request_table; values = request_parts m }
parts_of (Response m) = record { kind = 4; table = response_table; values = response_parts m }
parts_of (DownloadProgress m) = record { kind = 5; table = download_progress_table; values = download_progress_parts m }
parts_of (Ping m) = record { kind = 6; table = ping_table; values = ping_parts m }
parts_of (Close m) = record { kind = 7; table = close_table; values = close_parts m }

-- its type, its written form, and its frame
abbrev pub kind_of : Message → ℕ
kind_of m = (parts_of m).kind

abbrev pub body_of : Message → List ℕ
body_of m = form (parts_of m).table (parts_of m).values

-- a header of this type that says no compression
abbrev pub header_form : ℕ → List ℕ
header_form kind = form header_table (pos kind, (pos 0, tt))

abbrev pub later_frame : ℕ → List ℕ → List ℕ
later_frame kind body = sized16 (header_form kind) ++ sized32 body

abbrev pub message_frame : Message → List ℕ
message_frame m = later_frame (kind_of m) (body_of m)
