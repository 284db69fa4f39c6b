-- The names of versions: of files of a folder that were replaced or removed and are kept below `.stversions`, as Syncthing names them, but in UTC
-- (own rule where a name is long).
use Rattle.std.specs.Prelude.{◌≡◌, ℕ, ℤ, pos, ◌-◌, ◌<◌, ◌≤◌, List, ◌∷◌, ◌++◌, take, length}
use Rattle.std.specs.Str.{IsCharBoundary}
use Rattle.sync_names.specs.Extension.{stem_of, extension_of}
use Rattle.sync_names.specs.Utc.{utc_time, date_digits, time_digits}
use Rattle.sync_names.specs.declared.utc.UtcTime.{UtcTime}

-- `~`, and the moment in UTC as YYYYMMDD-HHMMSS (ISO 8601, with `-` in place of `T`)
abbrev pub version_mark : ℕ → List ℕ
version_mark moment = 126 ∷ (date_digits (utc_time moment) ++ 45 ∷ time_digits (utc_time moment))

-- a clock shows these numbers
pub record IsShown (shown : UtcTime) (year month day hour minute second : ℤ) : Type 0 where
  pub year_is : year ≡ pos shown.year
  pub month_is : month ≡ pos shown.month
  pub day_is : day ≡ pos shown.day
  pub hour_is : hour ≡ pos shown.hour
  pub minute_is : minute ≡ pos shown.minute
  pub second_is : second ≡ pos shown.second

-- the front is as much of the text as ends with a character within so many bytes
pub record IsCut (limit : ℕ) (text front : List ℕ) : Type 0 where
  pub end : ℕ
  pub is : front ≡ take end text
  pub within : end ≤ limit
  pub boundary : IsCharBoundary text end
  pub longest : (k : ℕ) → end < k → k ≤ limit → ¬ (IsCharBoundary text k)

-- The last component of the version of a file with that last component: the mark is before its extension. Where that would be more than 255 bytes, it is
-- cut before the mark; an extension that would be too long alone is cut too.
pub record IsVersionName (last : List ℕ) (moment : ℕ) (name : List ℕ) : Type 0 where
  pub front : List ℕ
  pub back : List ℕ
  pub is : name ≡ front ++ version_mark moment ++ back
  pub extension : IsCut 239 (extension_of last) back
  pub stem : IsCut (239 - length back) (stem_of last) front

-- a component has the form of a version of that moment: the mark ends what is before its extension
abbrev pub IsVersionOf : ℕ → List ℕ → Type 0
IsVersionOf moment component = (front : List ℕ) × (stem_of component ≡ front ++ version_mark moment)
