-- The records of an index (Block Exchange Protocol v1, "Index and Index Update"; which names are skipped: own rule).
use Rattle.std.specs.Prelude.{ℕ, ◌-◌, Bool, List, map, filter, length, is_none}
use Rattle.bep_messages.specs.declared.file_info.FileInfo.{FileInfo}
use Rattle.sync_names.specs.Refusal.{refusal}
use Rattle.sync_record.specs.Infos.{record_of}
use Rattle.sync_record.specs.Records.{FileRecord}

-- a record whose name is safe is kept, any other is skipped
abbrev pub is_kept : FileInfo → Bool
is_kept info = is_none (refusal info.name)

abbrev pub kept_records : List FileInfo → List FileRecord
kept_records files = map record_of (filter is_kept files)

-- how many are skipped: all others
abbrev pub skipped_count : List FileInfo → ℕ
skipped_count files = length files - length (kept_records files)
