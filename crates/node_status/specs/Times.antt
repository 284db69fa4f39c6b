-- Moments, in seconds since 1970, as a person reads them, in UTC.
use Rattle.std.specs.Prelude.{ℕ, ◌/◌, ◌%◌, ◌==◌, nat_le, List, ◌++◌, codes, if◌then◌else◌}
use Rattle.sync_names.specs.declared.utc.UtcTime.{UtcTime}
use Rattle.sync_names.specs.Utc.{utc_time, two_digits, four_digits}
use Rattle.sync_version.specs.declared.moment.TheConstants.Moment.{MAX_SECONDS}
use Rattle.node_status.specs.Numbers.{number_text}

-- the time of day, as 05:03:11
abbrev pub clock_text : ℕ → List ℕ
clock_text seconds =
    two_digits (seconds % 86400 / 3600) ++ codes ":" ++ two_digits (seconds % 3600 / 60) ++ codes ":" ++ two_digits (seconds % 60)

-- the date, as 2026-12-01
abbrev pub date_text : UtcTime → List ℕ
date_text shown = four_digits shown.year ++ codes "-" ++ two_digits shown.month ++ codes "-" ++ two_digits shown.day

-- the date and the time of day, as 2026-12-01 05:03:11; what lies past the year 9891 as a number
abbrev pub moment_text : ℕ → List ℕ
moment_text seconds =
    if nat_le seconds MAX_SECONDS then date_text (utc_time seconds) ++ codes " " ++ clock_text seconds
    else number_text seconds ++ codes " s after 1970"

-- the same without the date, where that is the date of another moment
abbrev pub time_text : ℕ → ℕ → List ℕ
time_text made seconds =
    if seconds / 86400 == made / 86400 then clock_text seconds else moment_text seconds
