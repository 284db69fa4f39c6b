-- Whether a file is as its record says, by what the system says of it (own rule).
use Rattle.std.specs.Prelude.{ℤ, pos, ◌+ℤ◌, Bool, true, ◌&&◌, int_le, int_lt}
use Rattle.std.specs.Ordering.{int_eq}
use Rattle.folder_look.specs.Tables.{same_kind}
use Rattle.folder_look.specs.declared.facts.EntryKind.{EntryKind}
use Rattle.folder_look.specs.declared.facts.EntryKind.TheVariants.{File, Directory, Other}
use Rattle.folder_look.specs.declared.facts.Facts.{Facts}
use Rattle.node_files.specs.Times.{time_of}
use Rattle.sync_record.specs.Records.{FileRecord, is_live_file}

-- both are files, of one size
abbrev pub is_file_of : FileRecord → Facts → Bool
is_file_of r f = is_live_file r && same_kind f.kind File && int_eq r.size (pos f.size)

-- the file has the record's size and its modification time
abbrev pub is_put : FileRecord → Facts → Bool
is_put r f = is_file_of r f && int_eq f.modified (time_of r.modified_s r.modified_ns)

-- the time is in the second that begins then
abbrev pub is_in : ℤ → ℤ → Bool
is_in time start = int_le start time && int_lt time (start +ℤ pos 1000000000)

-- a file of the record's size, with its modification time to the second; or no file
abbrev pub may_be_at : EntryKind → FileRecord → Facts → Bool
may_be_at File r f = is_file_of r f && is_in f.modified (time_of r.modified_s (pos 0))
may_be_at Directory r f = true
may_be_at Other r f = true

abbrev pub may_be : FileRecord → Facts → Bool
may_be r f = may_be_at f.kind r f
