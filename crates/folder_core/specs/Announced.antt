-- The records that devices announce, and the best of each name (Syncthing, "Understanding Synchronization").
use Rattle.std.specs.Prelude.{bytes_eq, ◌≡◌, ◌≢◌, Bool, not, ◌&&◌, ◌||◌, List, map, filter, find, fold, reverse, Option, Some, IsTrue}
use Rattle.std.specs.List.{list_all, list_any}
use Rattle.std.specs.Ordering.{on, then_cmp}
use Rattle.std.specs.declared.cmp.Ordering.{Ordering}
use Rattle.std.specs.FinMap.{FinMap, get, insert, retain_keys}
use Rattle.sync_record.specs.Contents.{same_content}
use Rattle.sync_record.specs.Devices.{Identity, bytes_cmp}
use Rattle.sync_record.specs.Preference.{is_preferred}
use Rattle.sync_record.specs.Records.{Name, FileRecord}
use Rattle.sync_record.specs.Validity.{is_valid}
use Rattle.sync_version.specs.Computed.{dominates, same_version}

-- of which name, and by which device
pub record Key : Type 0 where
  pub name : Name
  pub device : Identity

abbrev pub key : Name → Identity → Key
key n d = record { name = n; device = d }

-- by name, and then by device
abbrev pub key_cmp : Key → Key → Ordering
key_cmp = then_cmp (on (λ k. k.name) bytes_cmp) (on (λ k. k.device) bytes_cmp)

-- one record at most of a name by a device
abbrev pub Announced : Type 0
Announced = FinMap key_cmp FileRecord

-- each record is under its name
abbrev pub IsNamed : Announced → Type 0
IsNamed a = (k : Key) (r : FileRecord) → get a k ≡ Some r → r.name ≡ k.name

-- Every device's record of each name, as `entries` lists them: by name, and then by device.
abbrev pub KeyedRecord : Type 0
KeyedRecord = Key × FileRecord

abbrev pub is_of : Name → KeyedRecord → Bool
is_of n e = bytes_eq e.0.name n

abbrev pub is_by : Identity → KeyedRecord → Bool
is_by d e = bytes_eq e.0.device d

-- the device announces these records too; of several under one name the last counts
abbrev pub announce : Identity → List FileRecord → Announced → Announced
announce d records a = fold (λ a r. insert a (key r.name d) r) a records

-- the last record of a name
abbrev pub last_of : Name → List FileRecord → Option FileRecord
last_of n rs = find (λ r. bytes_eq r.name n) (reverse rs)

-- the device announces nothing
abbrev pub without : Identity → Announced → Announced
without d a = retain_keys a (λ k. not (bytes_eq k.device d))

-- a valid record, where no valid record of its name dominates it
abbrev pub is_candidate : List KeyedRecord → KeyedRecord → Bool
is_candidate es e =
    is_valid e.1 && not (list_any (λ f. is_of e.0.name f && is_valid f.1 && dominates f.1.version e.1.version) es)

-- the record with its device
abbrev pub by_device : KeyedRecord → Identity × FileRecord
by_device e = (e.0.device, e.1)

-- the candidate that is preferred to every other of its name
abbrev pub is_best : List KeyedRecord → KeyedRecord → Bool
is_best es e =
    is_candidate es e
    && list_all (λ f. is_by e.0.device f || is_preferred (by_device e) (by_device f)) (filter (λ f. is_of e.0.name f && is_candidate es f) es)

-- the best of each name that has one, in byte order
abbrev pub bests : List KeyedRecord → List KeyedRecord
bests es = filter (is_best es) es

abbrev pub best : List KeyedRecord → Name → Option KeyedRecord
best es n = find (is_of n) (bests es)

-- the devices whose valid record of that name has its version and its content, rising
abbrev pub devices_of : List KeyedRecord → KeyedRecord → List Identity
devices_of es b =
    map (λ e. e.0.device)
    (filter (λ e. is_of b.0.name e && is_valid e.1 && same_version e.1.version b.1.version && same_content e.1 b.1) es)

-- The same in the words of the rules.
pub record IsCandidate (a : Announced) (n : Name) (d : Identity) (r : FileRecord) : Type 0 where
  pub announced : get a (key n d) ≡ Some r
  pub valid : IsTrue (is_valid r)
  pub undominated : (e : Identity) (q : FileRecord) → get a (key n e) ≡ Some q → IsTrue (is_valid q) → ¬ (IsTrue (dominates q.version r.version))

pub record IsBest (a : Announced) (n : Name) (d : Identity) (r : FileRecord) : Type 0 where
  pub candidate : IsCandidate a n d r
  pub preferred : (e : Identity) (q : FileRecord) → IsCandidate a n e q → e ≢ d → IsTrue (is_preferred (d, r) (e, q))
