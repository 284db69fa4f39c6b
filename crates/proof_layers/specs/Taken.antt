-- When a scan leaves the local record as what is there (own rule).
use Rattle.std.specs.Prelude.{⊤, Ok}
use Rattle.folder_core.specs.declared.scan.ScanAnswer.TheVariants as scan
use Rattle.sync_scan.specs.declared.scanned.Scanned.{Scanned}
use Rattle.sync_scan.specs.declared.scanned.Scanned.TheVariants as scanned

-- what was found is recorded, by this scan or since before
abbrev pub IsTaken : Scanned → Type 0
IsTaken (scanned.Answered (Ok (scan.Recorded sequence))) = ⊤
IsTaken (scanned.Answered (Ok scan.Unchanged)) = ⊤
IsTaken _ = ⊥
