-- What the reads of `PlainFolder` find in its list of entries.
use Rattle.std.specs.Prelude.{bytes_eq, ℕ, Bool, ◌&&◌, ◌||◌, not, nat_lt, if◌then◌else◌, List, map, filter, find, flat_map, fold, max, Option, Some, None, is_some, option_and_then, option_map}
use Rattle.std.specs.List.{reduce}
use Rattle.folder_core.specs.declared.announcement.Announcement.{Announcement as Entry}
use Rattle.folder_core.specs.declared.place.Place.{Place}
use Rattle.sync_blocks.specs.declared.block.Block.{Block}
use Rattle.sync_record.specs.Devices.{Identity}
use Rattle.sync_record.specs.Records.{Name, FileRecord, is_live, is_live_file}
use Rattle.sync_version.specs.Versions.{Vector}
use Rattle.folder_core.specs.Announced.{bests}
use Rattle.folder_core.specs.Plain.{better, filed, is_undominated}
use Rattle.folder_core.specs.States.{same_local_version}

abbrev pub is_from : Identity → Entry → Bool
is_from d e = bytes_eq e.device d

-- the device's record of entries of one name
abbrev pub record_from : Identity → List Entry → Option FileRecord
record_from d es = option_map (λ e. e.record) (find (is_from d) es)

-- the device's records, in byte order of their names
abbrev pub records_from : Identity → List Entry → List FileRecord
records_from d es = map (λ e. e.record) (filter (is_from d) es)

-- the greatest sequence of the device's records, 0 without any
abbrev pub greatest_sequence : Identity → List Entry → ℕ
greatest_sequence d es = fold max 0 (map (λ e. e.record.sequence) (filter (is_from d) es))

-- the first block with this digest, where the entry is a live file of the device
abbrev pub block_from : Identity → List ℕ → Entry → Option Block
block_from d hash e = if is_from d e && is_live_file e.record then find (λ b. bytes_eq b.hash hash) e.record.blocks else None

-- where the block of the file is
abbrev pub place : FileRecord → Block → Place
place r b = record { name = r.name; offset = b.offset; size = b.size }

-- the blocks with this digest in the device's live files
abbrev pub places_from : Identity → List ℕ → List Entry → List Place
places_from d hash es =
    flat_map (λ r. map (place r) (filter (λ b. bytes_eq b.hash hash) r.blocks)) (filter is_live_file (records_from d es))

abbrev pub version_of : Option FileRecord → Option Vector
version_of r = option_map (λ r. r.version) r

-- whether a best is needed by a device of which this is the own record
abbrev pub is_needed_over : Option FileRecord → FileRecord → Bool
is_needed_over own b = not (same_local_version (version_of own) (Some b.version)) && (is_live b || is_some own)

-- of entries of one name: the best, if the device needs it
abbrev pub needed_of : Identity → List Entry → Option Entry
needed_of d es =
    option_and_then (λ b. if is_needed_over (record_from d es) b.record then Some b else None)
    (reduce better (filter (is_undominated es) es))

-- the device's record of a name
abbrev pub record_of : Identity → List Entry → Name → Option FileRecord
record_of d es n = record_from d (filter (λ e. bytes_eq e.record.name n) es)

-- the names whose best the device needs, in byte order
abbrev pub needed_names : Identity → List Entry → List Name
needed_names d es =
    map (λ b. b.0.name) (filter (λ b. is_needed_over (record_of d es b.0.name) b.1) (bests (map filed es)))

-- the device's records of greater sequence
abbrev pub later_from : Identity → ℕ → List Entry → List FileRecord
later_from d sequence es = filter (λ r. nat_lt sequence r.sequence) (records_from d es)
