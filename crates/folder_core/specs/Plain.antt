-- How `PlainFolder` keeps a folder: one list of what is announced, by name and then by device, and one of the open pulls,
-- by name.
use Rattle.std.specs.Prelude.{◌≡◌, ℕ, ◌+◌, ◌≤◌, All, length, is_some, Bool, not, ◌&&◌, if◌then◌else◌, List, fold, map, filter, option_map, find, bytes_eq, Option, Some, None, IsTrue}
use Rattle.std.specs.List.{list_any, reduce}
use Rattle.std.specs.FinMap as map
use Rattle.folder_core.specs.declared.announcement.Announcement.{Announcement as Entry}
use Rattle.folder_core.specs.declared.plain.pull.OpenPull.{OpenPull}
use Rattle.folder_core.specs.declared.pull_stage.PullStage.{PullStage}
use Rattle.folder_core.specs.declared.pull_stage.PullStage.TheVariants.{Pulling, Committing}
use Rattle.sync_record.specs.Contents.{same_content}
use Rattle.sync_record.specs.Devices.{Identity, bytes_cmp}
use Rattle.sync_record.specs.Preference.{is_preferred}
use Rattle.sync_record.specs.Records.{Name, FileRecord}
use Rattle.sync_record.specs.Validity.{is_valid}
use Rattle.sync_version.specs.Computed.{dominates, same_version}
use Rattle.folder_core.specs.Announced.{KeyedRecord, bests, key, key_cmp, last_of}
use Rattle.folder_core.specs.Codes.{Pulls}
use Rattle.folder_core.specs.Reads.{BestEntry, with_devices}
use Rattle.folder_core.specs.States.{FolderState, IsFolder, Pull}
use Rattle.folder_core.specs.Steps.{committed_record}

-- what a device announces, under its key
abbrev pub filed : Entry → KeyedRecord
filed e = (key e.record.name e.device, e.record)

-- a record of the device, under its key
abbrev pub filed_by : Identity → FileRecord → KeyedRecord
filed_by d r = (key r.name d, r)

-- no two entries are of one key, and they rise by name and then by device
abbrev pub Rises : List Entry → Type 0
Rises es = IsTrue (map.is_sorted key_cmp (map filed es))

-- the best of each name, in byte order, with the devices that have it
abbrev pub listed_bests : List Entry → List BestEntry
listed_bests es = map (with_devices (map filed es)) (bests (map filed es))

-- a pull commits from when on the record that it will announce stands ready
abbrev pub stage_of : Option FileRecord → PullStage
stage_of None = Pulling
stage_of (Some r) = Committing

abbrev pub opened : OpenPull → Pull
opened p = record { number = p.number; base = option_map (λ r. r.version) p.base; target = p.target; stage = stage_of p.ready }

-- an open pull, under its name
abbrev pub pulled : OpenPull → Name × Pull
pulled p = (p.target.name, opened p)

-- no two pulls are of one name, and they rise by name
abbrev pub PullsRise : List OpenPull → Type 0
PullsRise ps = IsTrue (map.is_sorted bytes_cmp (map pulled ps))

abbrev pub pulls_of : List OpenPull → Pulls
pulls_of ps = map.from_sorted (map pulled ps)

-- what stands ready is the record that the commit announces
abbrev pub IsReady : OpenPull → Type 0
IsReady p = (r : FileRecord) → p.ready ≡ Some r → r ≡ committed_record (opened p).base p.target

-- how many commits are open
abbrev pub commits : List OpenPull → ℕ
commits ps = length (filter (λ p. is_some p.ready) ps)

abbrev pub folder_of : Identity → List Entry → ℕ → Pulls → FolderState
folder_of me es last pulls = record { me = me; announced = map.from_sorted (map filed es); last = last; pulls = pulls }

-- What holds of a plain folder's lists: they rise, they make up a folder, and each open commit has its record ready and a
-- place for it in the memory of the list.
pub record IsPlain (me : Identity) (es : List Entry) (capacity last : ℕ) (ps : List OpenPull) : Type 0 where
  pub rises : Rises es
  pub pulls_rise : PullsRise ps
  pub folder : IsFolder (folder_of me es last (pulls_of ps))
  pub ready : All IsReady ps
  pub room : length es + commits ps ≤ capacity

-- the list with these, each in its place or in place of what has its key
abbrev pub put_all : List KeyedRecord → List KeyedRecord → List KeyedRecord
put_all es rs = fold (λ es r. map.put key_cmp r.0 r.1 es) es rs

abbrev pub named : FileRecord → Name × FileRecord
named r = (r.name, r)

-- no two records are of one name, and the names rise
abbrev pub NamesRise : List FileRecord → Type 0
NamesRise rs = IsTrue (map.is_sorted bytes_cmp (map named rs))

-- the last record of each name, in byte order of the names
pub record IsLastOfEach (records kept : List FileRecord) : Type 0 where
  pub rise : NamesRise kept
  pub last : (n : Name) → find (λ r. bytes_eq r.name n) kept ≡ last_of n records

-- of entries of one name: the devices whose valid record has the version and the content of the record
abbrev pub devices_with : List Entry → FileRecord → List Identity
devices_with es b =
    map (λ e. e.device)
    (filter (λ e. is_valid e.record && same_version e.record.version b.version && same_content e.record b) es)

-- of entries of one name: it is valid, and no valid one dominates it
abbrev pub is_undominated : List Entry → Entry → Bool
is_undominated es e = is_valid e.record && not (list_any (λ f. is_valid f.record && dominates f.record.version e.record.version) es)

-- the second where it is preferred to the first
abbrev pub better : Entry → Entry → Entry
better e f = if is_preferred (f.device, f.record) (e.device, e.record) then f else e

-- the second where it is alone
abbrev pub better_of : Option Entry → Entry → Entry
better_of None f = f
better_of (Some e) f = better e f

-- the best of entries of one name, with the devices that have it
abbrev pub group_best : List Entry → Option BestEntry
group_best es = option_map (λ b. (b.record, devices_with es b.record)) (reduce better (filter (is_undominated es) es))
