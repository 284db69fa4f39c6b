-- A folder's own records, as they are recovered (own rule).
use Rattle.std.specs.Prelude.{◌≡◌, ◌⊎◌, ℕ, ◌<◌, ◌≤◌, List, Some}
use Rattle.folder_core.specs.States.{FolderState, local}
use Rattle.node_journal.specs.declared.frame.Frame.{Frame}
use Rattle.node_replay.specs.Recovered.{IsRecovered}
use Rattle.node_replay.specs.Told.{lasts_told, parts_of, records_told}
use Rattle.sync_record.specs.Records.{Name, FileRecord}

-- the second folder is recovered from the first one and from what these frames tell of the folder of this id
abbrev pub IsRecoveredBy : List ℕ → List Frame → FolderState → FolderState → Type 0
IsRecoveredBy id frames s t = IsRecovered (records_told (parts_of id frames)) (lasts_told (parts_of id frames)) s t

-- both folders have the same own records, and gave the same last sequence
pub record SameOwn (s t : FolderState) : Type 0 where
  pub records : (n : Name) → local s n ≡ local t n
  pub last : s.last ≡ t.last

-- The first folder's own records are those of the second one at an earlier point: of each name both have the same, or the second one has a record
-- whose sequence the first one had not given yet.
pub record IsEarlierOwn (s t : FolderState) : Type 0 where
  pub records : (n : Name) → (local s n ≡ local t n) ⊎ ((r : FileRecord) × (local t n ≡ Some r) × (s.last < r.sequence))
  pub last : s.last ≤ t.last
