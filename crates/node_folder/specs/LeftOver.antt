-- Which names are scanned again soon (own rule).
use Rattle.std.specs.Prelude.{Bool, true, false, Result, Ok, Err}
use Rattle.file_store.specs.declared.refusal.StoreRefusal.{StoreRefusal}
use Rattle.folder_core.specs.declared.scan.ScanAnswer.TheVariants.{Recorded, Unchanged, Moved, Busy}
use Rattle.sync_scan.specs.declared.scanned.Scanned.{Scanned}
use Rattle.sync_scan.specs.declared.scanned.Scanned.TheVariants.{Answered, Skipped, Changing}

-- a change of it was recorded
abbrev pub is_record : Scanned → Bool
is_record (Answered (Ok (Recorded sequence))) = true
is_record (Answered (Ok Unchanged)) = false
is_record (Answered (Ok (Moved version))) = false
is_record (Answered (Ok Busy)) = false
is_record (Answered (Err refusal)) = false
is_record Skipped = false
is_record Changing = false

abbrev pub is_recorded : Result Scanned StoreRefusal → Bool
is_recorded (Ok scanned) = is_record scanned
is_recorded (Err refusal) = false

-- it was not recorded, though it may be the next time
abbrev pub is_unrecorded : Scanned → Bool
is_unrecorded (Answered (Ok (Recorded sequence))) = false
is_unrecorded (Answered (Ok Unchanged)) = false
is_unrecorded (Answered (Ok (Moved version))) = true
is_unrecorded (Answered (Ok Busy)) = true
is_unrecorded (Answered (Err refusal)) = true
is_unrecorded Skipped = false
is_unrecorded Changing = true

-- the same, or the store failed
abbrev pub is_left_over : Result Scanned StoreRefusal → Bool
is_left_over (Ok scanned) = is_unrecorded scanned
is_left_over (Err refusal) = true
