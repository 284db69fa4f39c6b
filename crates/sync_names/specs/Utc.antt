-- What a clock in UTC shows at a moment: the calendar of ISO 8601 (proleptic Gregorian), and days of 86,400
-- seconds (POSIX.1, section 4.19, "Seconds Since the Epoch").
use Rattle.std.specs.Prelude.{◌≡◌, ℕ, zero, suc, ◌+◌, ◌-◌, ◌*◌, ◌/◌, ◌%◌, ◌<◌, nat_lt, pos, ◌+ℤ◌, ◌*ℤ◌, List, [], ◌∷◌, ◌++◌, if◌then◌else◌}
use Rattle.jiff_core.specs.Calendar.{IsCivilDate, days_from_civil, days_in_year, days_in_month}
use Rattle.sync_names.specs.declared.utc.UtcTime.{UtcTime}

-- the date is in the calendar, the clock shows the time of day, and so many seconds lie between
-- 1970-01-01T00:00:00 and both
pub record IsUtc (moment : ℕ) (shown : UtcTime) : Type 0 where
  pub date : IsCivilDate (pos shown.year) shown.month shown.day
  pub hour : shown.hour < 24
  pub minute : shown.minute < 60
  pub second : shown.second < 60
  pub seconds : (days_from_civil (pos shown.year) shown.month shown.day *ℤ pos 86400) +ℤ pos (shown.hour * 3600 + shown.minute * 60 + shown.second) ≡ pos moment

-- a year, and the days that are left of a number of days once each whole year from `year` on is counted off;
-- the first number bounds the years
unfoldable pub year_and_rest : ℕ → ℕ → ℕ → ℕ × ℕ
year_and_rest zero year days = (year, days)
year_and_rest (suc n) year days =
    if nat_lt days (days_in_year (pos year)) then (year, days)
    else year_and_rest n (year + 1) (days - days_in_year (pos year))

-- the same with the months of a year
unfoldable pub month_and_rest : ℕ → ℕ → ℕ → ℕ → ℕ × ℕ
month_and_rest zero year month days = (month, days)
month_and_rest (suc n) year month days =
    if nat_lt days (days_in_month (pos year) month) then (month, days)
    else month_and_rest n year (month + 1) (days - days_in_month (pos year) month)

-- what the clock shows, for moments before the year 9970
unfoldable pub utc_time : ℕ → UtcTime
utc_time moment =
    let year = year_and_rest 8000 1970 (moment / 86400) in
    let month = month_and_rest 12 year.0 1 year.1 in record {
      year = year.0;
      month = month.0;
      day = month.1 + 1;
      hour = moment % 86400 / 3600;
      minute = moment % 3600 / 60;
      second = moment % 60;
    }

abbrev pub two_digits : ℕ → List ℕ
two_digits n = (48 + n / 10) ∷ (48 + n % 10) ∷ []

abbrev pub four_digits : ℕ → List ℕ
four_digits n = two_digits (n / 100) ++ two_digits (n % 100)

-- the date as YYYYMMDD (ISO 8601, basic format)
abbrev pub date_digits : UtcTime → List ℕ
date_digits shown = four_digits shown.year ++ two_digits shown.month ++ two_digits shown.day

-- the time of day as HHMMSS
abbrev pub time_digits : UtcTime → List ℕ
time_digits shown = two_digits shown.hour ++ two_digits shown.minute ++ two_digits shown.second
