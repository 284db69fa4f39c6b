-- When a folder is scanned next, and how many seconds lie between two scans (own rule).
use Rattle.std.specs.Prelude.{ℕ, ◌+◌, ◌-◌, ◌*◌, ◌/◌, ◌%◌, ◌^◌, ◌==◌, nat_lt, if◌then◌else◌, min, ◌||◌, is_some, Option, Some, None}
use Rattle.node_folder.specs.declared.schedule.FolderScan.{FolderScan}
use Rattle.node_folder.specs.declared.schedule.ScanOutcome.{ScanOutcome}
use Rattle.node_folder.specs.declared.schedule.ScanOutcome.TheVariants.{Whole, Partly, Away, Unseen}
use Rattle.node_folder.specs.declared.schedule.ScanSchedule.{ScanSchedule}
use Rattle.sync_scan.specs.declared.sum.ScanSum.{ScanSum}

-- in how many seconds it is scanned next, if it is to be
abbrev pub next_scan : ScanSchedule → Option ℕ
next_scan s = s.left

-- not scanned yet: it is due now, and no scan is to be tried again
abbrev pub unscanned : ℕ → ScanSchedule
unscanned rescan = record { rescan = rescan; left = Some 0; retry = 0 }

-- so many seconds fewer are left, and not fewer than none
abbrev pub sooner : ℕ → Option ℕ → Option ℕ
sooner seconds None = None
sooner seconds (Some left) = Some (left - seconds)

-- so many seconds later
abbrev pub later : ℕ → ScanSchedule → ScanSchedule
later seconds s = record s { left = sooner seconds s.left }

-- the next scan by the clock: after these seconds, or never where they are 0
abbrev pub by_clock : ℕ → Option ℕ
by_clock rescan = if rescan == 0 then None else Some rescan

-- how long a scan is waited for that is to try again: 10 seconds at first, then twice as long as the last time, an hour at most
abbrev pub next_retry : ℕ → ℕ
next_retry retry = if retry == 0 then 10 else min (2 * retry) 3600

-- what comes first: the scan by the clock, if there is one, or the one that tries again
abbrev pub first_of : Option ℕ → ℕ → ℕ
first_of None retry = retry
first_of (Some clock) retry = min clock retry

-- it was scanned, and that came to this
abbrev pub settled : ScanOutcome → ScanSchedule → ScanSchedule
settled Whole s = record s { left = by_clock s.rescan; retry = 0 }
settled Partly s = record s { left = Some (first_of (by_clock s.rescan) (next_retry s.retry)); retry = next_retry s.retry }
settled Away s = record s { left = Some 10 }
settled Unseen s = record s { left = Some 1 }

-- from three quarters to five quarters of the seconds, by the folder's number; just as many where they are less than an hour
abbrev pub spread : ℕ → ℕ → ℕ
spread rescan number = if nat_lt rescan 3600 then rescan else min ((rescan - rescan / 4) + number % (2 * (rescan / 4) + 1)) (2 ^ 64 - 1)

-- how many names a scan counts, as far as they fit
abbrev pub counted : ScanSum → ℕ
counted sum = min (min (sum.recorded + sum.unchanged) (2 ^ 64 - 1) + sum.other) (2 ^ 64 - 1)

-- it came to its end, and looked at each name that it counts; or it didn't
abbrev pub outcome_of : FolderScan → ScanOutcome
outcome_of scan = if is_some scan.sum.stopped || nat_lt scan.seen (counted scan.sum) then Partly else Whole
