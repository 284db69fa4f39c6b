-- What a folder may be restored from (own rule).
use Rattle.std.specs.Prelude.{◌≡◌, ◌≢◌, ◌≤◌, ℤ, List, map, Contains, AllPairs, IsTrue}
use Rattle.std.specs.FinMap.{empty, entries, from_entries}
use Rattle.sync_record.specs.Devices.{Identity}
use Rattle.sync_record.specs.Infos.{is_natural, natural}
use Rattle.sync_record.specs.Records.{FileRecord}
use Rattle.sync_record.specs.Validity.{is_valid}
use Rattle.folder_core.specs.Announced.{Key, key, by_device}
use Rattle.folder_core.specs.States.{FolderState, max_sequence}

-- of which name and by which device the record is
abbrev pub key_of : Identity × FileRecord → Key
key_of p = key p.1.name p.0

-- This device's folder may be restored from these devices' records and this last sequence: the last sequence is a sequence
-- or 0; no device has two records of a name; and this device's records are valid, with distinct sequences from 1 to the last.
pub record MayRestore (me : Identity) (records : List (Identity × FileRecord)) (last : ℤ) : Type 0 where
  pub not_negative : IsTrue (is_natural last)
  pub fits : natural last ≤ max_sequence
  pub once : AllPairs (λ p q. key_of p ≢ key_of q) records
  pub valid : (r : FileRecord) → Contains records (me, r) → IsTrue (is_valid r)
  pub in_range : (r : FileRecord) → Contains records (me, r) → (1 ≤ r.sequence) × (r.sequence ≤ natural last)
  pub distinct : (q r : FileRecord) → Contains records (me, q) → Contains records (me, r) → q.sequence ≡ r.sequence → q ≡ r

-- the folder that has these records and no open pull
abbrev pub restored_folder : Identity → List (Identity × FileRecord) → ℤ → FolderState
restored_folder me records last = record {
  me = me;
  announced = from_entries (map (λ p. (key_of p, p.1)) records);
  last = natural last;
  pulls = empty;
}

-- every record of the folder, with its device
abbrev pub records_of : FolderState → List (Identity × FileRecord)
records_of s = map by_device (entries s.announced)
