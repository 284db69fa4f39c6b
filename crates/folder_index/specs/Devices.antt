-- What one device announces.
use Rattle.std.specs.Prelude.{ℕ, List, filter, fold, map, max}
use Rattle.std.specs.FinMap.{entries}
use Rattle.sync_record.specs.Devices.{Identity}
use Rattle.sync_record.specs.Records.{Name}
use Rattle.folder_core.specs.declared.announcement.Announcement.{Announcement as Entry}
use Rattle.folder_core.specs.Announced.{KeyedRecord, is_by}
use Rattle.folder_core.specs.PlainReads.{is_from}
use Rattle.folder_index.specs.Indexes.{IndexState, without_record}

-- the names of its records, as they are listed
abbrev pub names_by : Identity → List KeyedRecord → List Name
names_by d es = map (λ e. e.0.name) (filter (is_by d) es)

-- the sequences of its records
abbrev pub sequences_by : Identity → List KeyedRecord → List ℕ
sequences_by d es = map (λ e. e.1.sequence) (filter (is_by d) es)

-- the greatest of these, 0 without any
abbrev pub greatest_of : List ℕ → ℕ
greatest_of qs = fold max 0 qs

-- the same of entries
abbrev pub names_from : Identity → List Entry → List Name
names_from d es = map (λ e. e.record.name) (filter (is_from d) es)

abbrev pub sequences_from : Identity → List Entry → List ℕ
sequences_from d es = map (λ e. e.record.sequence) (filter (is_from d) es)

-- the device announces nothing of these names
abbrev pub without_names : Identity → List Name → IndexState → IndexState
without_names d ns s = fold (λ s n. without_record d n s) s ns

-- the device announces nothing
abbrev pub without_device : Identity → IndexState → IndexState
without_device d s = without_names d (names_by d (entries s.announced)) s
