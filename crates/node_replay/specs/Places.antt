-- Where the last record of each name is.
use Rattle.std.specs.Prelude.{◌≡◌, ℕ, List, Option, Some, option_map}
use Rattle.std.specs.BTreeMap.{BTreeMap, get}
use Rattle.std.specs.List.{slice_get}
use Rattle.folder_core.specs.Announced.{last_of}
use Rattle.sync_record.specs.Devices.{bytes_cmp}
use Rattle.sync_record.specs.Records.{Name, FileRecord}

abbrev pub place_at : BTreeMap Name ℕ → Name → Option ℕ
place_at places n = get bytes_cmp places n

-- at each name's place is the last record of the name, and none has a place that has no record
abbrev pub ArePlaces : List FileRecord → (Name → Option ℕ) → Type 0
ArePlaces rs at = (n : Name) → option_map (slice_get rs) (at n) ≡ option_map Some (last_of n rs)
