-- Worked rows: small folders, and what the rules make of them.
use Rattle.std.specs.Prelude.{◌≡◌, ℕ, true, false, pos, List, [], ◌∷◌, ◌++◌, Some, None, replicate, ⊤}
use Rattle.std.specs.FinMap.{FinMap, from_sorted}
use Rattle.sync_blocks.specs.declared.block.Block.{Block}
use Rattle.sync_record.specs.Devices.{Identity, bytes_cmp}
use Rattle.sync_record.specs.Records.{Name, FileRecord}
use Rattle.sync_version.specs.Versions.{Vector}
use Rattle.folder_core.specs.declared.counts.Counts.{Counts}
use Rattle.folder_core.specs.declared.place.Place.{Place}
use Rattle.folder_core.specs.declared.pull_stage.PullStage.{PullStage}
use Rattle.folder_core.specs.declared.pull_stage.PullStage.TheVariants.{Pulling, Committing}
use Rattle.folder_core.specs.Announced.{Announced, KeyedRecord, key}
use Rattle.folder_core.specs.States.{FolderState, Pull}
use Rattle.folder_core.specs.declared.answer.Answer.{Answer}
use Rattle.folder_core.specs.declared.answer.Answer.TheVariants.{Busy, Moved, Unchanged, CounterFull, SequenceFull, NotNeeded, Stray, LocalMoved, Superseded, Applied, Closed, Recorded, Done, Begun, Entered}
use Rattle.folder_core.specs.declared.change.Change.{Change}
use Rattle.folder_core.specs.declared.change.Change.TheVariants.{ScanFound, ScanGone, IndexFull, BeginPull, EnterCommit, Finish, GiveUp, Abort}
use Rattle.folder_core.specs.declared.finding.Finding.{Finding}
use Rattle.folder_core.specs.declared.finding.FoundContent.TheVariants.{File as FoundFile, Directory as FoundDirectory}
use Rattle.folder_core.specs.declared.pull_info.PullInfo.{PullInfo}
use Rattle.folder_core.specs.Steps.{step}

-- ---- devices, names, records

-- its short id is 9
abbrev pub me : Identity
me = replicate 7 0 ++ 9 ∷ replicate 24 0

abbrev pub p1 : Identity
p1 = replicate 32 1

abbrev pub p2 : Identity
p2 = replicate 32 2

abbrev pub p3 : Identity
p3 = replicate 32 3

abbrev pub x : Name
x = 120 ∷ []

abbrev pub y : Name
y = 121 ∷ []

abbrev pub z : Name
z = 122 ∷ []

abbrev pub block : ℕ → ℕ → ℕ → Block
block at size byte = record { offset = at; size = size; hash = replicate 32 byte }

-- an empty live file x of this version, modified at this second
abbrev pub file : Vector → ℕ → FileRecord
file v time = record {
  name = x;
  type_number = pos 0;
  size = pos 0;
  permissions = 0;
  modified_s = pos time;
  modified_ns = pos 0;
  modified_by = 0;
  deleted = false;
  invalid = false;
  no_permissions = true;
  version = v;
  sequence = 1;
  block_size = pos 131072;
  blocks = [];
  symlink_target = [];
}

abbrev pub deletion : Vector → ℕ → FileRecord
deletion v time = record (file v time) { deleted = true }

abbrev pub content : ℕ → List Block → FileRecord → FileRecord
content size blocks r = record r { size = pos size; blocks = blocks }

abbrev pub modified : ℕ → FileRecord → FileRecord
modified by r = record r { modified_by = by }

-- two contents of 3 bytes
abbrev pub abc : List Block
abc = block 0 3 7 ∷ []

abbrev pub abd : List Block
abd = block 0 3 8 ∷ []

-- ---- folders

abbrev pub by : Identity → FileRecord → KeyedRecord
by d r = (key r.name d, r)

abbrev pub announced : List KeyedRecord → Announced
announced es = from_sorted es

abbrev pub pulls : List (Name × Pull) → FinMap bytes_cmp Pull
pulls es = from_sorted es

-- this device's folder
abbrev pub folder : List KeyedRecord → ℕ → List (Name × Pull) → FolderState
folder es last ps = record { me = me; announced = announced es; last = last; pulls = pulls ps }

-- changes, each with its answer and its state
abbrev pub Row : Type 0
Row = List (Change × Answer × FolderState)

-- from a state each change of the row gives its answer and its state, one after another
abbrev pub Leads : FolderState → Row → Type 0
Leads s [] = ⊤
Leads s (m ∷ ms) = (step s m.0 ≡ (m.1, m.2)) × Leads m.2 ms

-- ---- which record is the best

-- P1's version dominates P2's, and P3's is concurrent with both
abbrev pub ring : List KeyedRecord
ring = by p1 (file ((1, 2) ∷ []) 1) ∷ by p2 (file ((1, 1) ∷ []) 3) ∷ by p3 (file ((3, 1) ∷ []) 2) ∷ []

abbrev pub deleted_and_live : List KeyedRecord
deleted_and_live = by p1 (deletion ((1, 2) ∷ []) 9) ∷ by p2 (file ((2, 1) ∷ []) 1) ∷ []

abbrev pub deleted_alone : List KeyedRecord
deleted_alone = by p1 (deletion ((1, 1) ∷ []) 1) ∷ []

abbrev pub modified_by_5_and_7 : List KeyedRecord
modified_by_5_and_7 = by p1 (modified 5 (file ((1, 1) ∷ []) 1)) ∷ by p2 (modified 7 (file ((2, 1) ∷ []) 1)) ∷ []

-- one second, and another part of it
abbrev pub nanoseconds_apart : List KeyedRecord
nanoseconds_apart = by p1 (record (file ((1, 1) ∷ []) 1) { modified_ns = pos 3 }) ∷ by p2 (record (file ((2, 1) ∷ []) 1) { modified_ns = pos 4 }) ∷ []

-- equal times and authors, and two versions in conflict
abbrev pub counters_apart : List KeyedRecord
counters_apart = by p1 (file ((1, 1) ∷ (2, 1) ∷ []) 1) ∷ by p2 (file ((1, 2) ∷ []) 1) ∷ []

-- this device's record and P1's with the same version and content
abbrev pub shared_by_two : List KeyedRecord
shared_by_two = by me (content 3 abc (file ((1, 1) ∷ []) 1)) ∷ by p1 (content 3 abc (file ((1, 1) ∷ []) 2)) ∷ []

-- the blocks of the file end too early
abbrev pub cut_short : KeyedRecord
cut_short = by p1 (content 262144 (block 0 131072 7 ∷ []) (file ((1, 1) ∷ []) 1))

-- one version with two contents
abbrev pub one_version : List KeyedRecord
one_version = by p1 (content 3 abc (file ((1, 1) ∷ []) 1)) ∷ by p2 (content 3 abd (file ((1, 1) ∷ []) 1)) ∷ []

-- one content of two versions
abbrev pub one_content : List KeyedRecord
one_content = by p1 (content 3 abc (file ((1, 1) ∷ []) 1)) ∷ by p2 (content 3 abc (file ((2, 1) ∷ []) 2)) ∷ []

-- an invalid record that dominates a valid one
abbrev pub invalid_above : List KeyedRecord
invalid_above = by p1 (record (file ((1, 2) ∷ []) 9) { invalid = true }) ∷ by p2 (file ((1, 1) ∷ []) 1) ∷ []

-- ---- a pull

-- P1 announces x with the content abc, which this device has not
abbrev pub target : FileRecord
target = content 3 abc (file ((1, 1) ∷ []) 5)

abbrev pub offered : FolderState
offered = folder (by p1 target ∷ []) 0 []

abbrev pub ticket : PullInfo
ticket = record { number = 1; name = x; base = None; target = target }

abbrev pub pull : PullStage → Pull
pull stage = record { number = 1; base = None; target = target; stage = stage }

-- a scan finds the content abd
abbrev pub found_abd : Finding
found_abd = record { content = FoundFile 3 131072 abd; modified_s = pos 4; modified_ns = pos 6 }

-- what this device records of it
abbrev pub recorded : Name → ℕ → FileRecord
recorded n sequence = record (content 3 abd (file ((9, 1) ∷ []) 4)) { name = n; modified_ns = pos 6; modified_by = 9; sequence = sequence }

abbrev pub appeared : List KeyedRecord
appeared = by me (recorded x 1) ∷ by p1 target ∷ []

-- the local file appears while the pull runs
abbrev pub local_moves : Row
local_moves =
    (BeginPull x, Begun ticket, folder (by p1 target ∷ []) 0 ((x, pull Pulling) ∷ []))
    ∷ (BeginPull x, Busy, folder (by p1 target ∷ []) 0 ((x, pull Pulling) ∷ []))
    ∷ (ScanFound x None found_abd 0, Recorded 1, folder appeared 1 ((x, pull Pulling) ∷ []))
    ∷ (EnterCommit ticket, LocalMoved, folder appeared 1 ((x, pull Pulling) ∷ []))
    ∷ (GiveUp ticket, Closed, folder appeared 1 [])
    ∷ (BeginPull x, Begun (record ticket { base = Some (recorded x 1) }), folder appeared 1 ((x, record (pull Pulling) { base = Some ((9, 1) ∷ []) }) ∷ []))
    ∷ []

abbrev pub committed : FileRecord
committed = record target { sequence = 1 }

-- a scan waits until the commit is closed, and then its expectation is old
abbrev pub commit_is_closed : Row
commit_is_closed =
    (BeginPull x, Begun ticket, folder (by p1 target ∷ []) 0 ((x, pull Pulling) ∷ []))
    ∷ (EnterCommit ticket, Entered ticket, folder (by p1 target ∷ []) 0 ((x, pull Committing) ∷ []))
    ∷ (ScanFound x None found_abd 0, Busy, folder (by p1 target ∷ []) 0 ((x, pull Committing) ∷ []))
    ∷ (ScanGone x (Some ((9, 1) ∷ [])) 0, Busy, folder (by p1 target ∷ []) 0 ((x, pull Committing) ∷ []))
    ∷ (Finish ticket target, Done 1, folder (by me committed ∷ by p1 target ∷ []) 1 [])
    ∷ (ScanFound x None found_abd 0, Moved (Some ((1, 1) ∷ [])), folder (by me committed ∷ by p1 target ∷ []) 1 [])
    ∷ (Finish ticket target, Stray, folder (by me committed ∷ by p1 target ∷ []) 1 [])
    ∷ (BeginPull x, NotNeeded, folder (by me committed ∷ by p1 target ∷ []) 1 [])
    ∷ []

-- the target is announced no more
abbrev pub target_is_withdrawn : Row
target_is_withdrawn =
    (BeginPull x, Begun ticket, folder (by p1 target ∷ []) 0 ((x, pull Pulling) ∷ []))
    ∷ (IndexFull p1 [], Applied, folder [] 0 ((x, pull Pulling) ∷ []))
    ∷ (EnterCommit ticket, Superseded, folder [] 0 ((x, pull Pulling) ∷ []))
    ∷ (GiveUp ticket, Closed, folder [] 0 [])
    ∷ []

-- a commit over a local record gives both versions' counters
abbrev pub over_local : PullInfo
over_local = record ticket { base = Some (recorded x 1) }

abbrev pub pull_over_local : PullStage → Pull
pull_over_local stage = record (pull stage) { base = Some ((9, 1) ∷ []) }

abbrev pub merged : FileRecord
merged = record target { version = (1, 1) ∷ (9, 1) ∷ []; sequence = 2 }

abbrev pub commit_merges : Row
commit_merges =
    (BeginPull x, Begun over_local, folder appeared 1 ((x, pull_over_local Pulling) ∷ []))
    ∷ (EnterCommit over_local, Entered over_local, folder appeared 1 ((x, pull_over_local Committing) ∷ []))
    ∷ (Finish over_local target, Done 2, folder (by me merged ∷ by p1 target ∷ []) 2 [])
    ∷ []

-- tickets of another folder
abbrev pub stray_tickets : Row
stray_tickets =
    (EnterCommit ticket, Stray, offered) ∷ (Finish ticket target, Stray, offered) ∷ (GiveUp ticket, Stray, offered) ∷ (Abort ticket, Stray, offered) ∷ []

-- a ticket of another number or another target, a commit of a pull that hasn't entered, and a ticket of one that has
abbrev pub other_tickets : Row
other_tickets =
    (BeginPull x, Begun ticket, folder (by p1 target ∷ []) 0 ((x, pull Pulling) ∷ []))
    ∷ (EnterCommit (record ticket { number = 2 }), Stray, folder (by p1 target ∷ []) 0 ((x, pull Pulling) ∷ []))
    ∷ (EnterCommit (record ticket { target = content 3 abd target }), Stray, folder (by p1 target ∷ []) 0 ((x, pull Pulling) ∷ []))
    ∷ (Finish ticket target, Stray, folder (by p1 target ∷ []) 0 ((x, pull Pulling) ∷ []))
    ∷ (Abort ticket, Stray, folder (by p1 target ∷ []) 0 ((x, pull Pulling) ∷ []))
    ∷ (EnterCommit ticket, Entered ticket, folder (by p1 target ∷ []) 0 ((x, pull Committing) ∷ []))
    ∷ (EnterCommit ticket, Stray, folder (by p1 target ∷ []) 0 ((x, pull Committing) ∷ []))
    ∷ (GiveUp ticket, Stray, folder (by p1 target ∷ []) 0 ((x, pull Committing) ∷ []))
    ∷ (Abort ticket, Closed, offered)
    ∷ []

-- a link isn't pulled
abbrev pub link : FileRecord
link = record (file ((1, 1) ∷ []) 1) { type_number = pos 4 }

abbrev pub link_offered : FolderState
link_offered = folder (by p1 link ∷ []) 0 []

-- ---- scans

abbrev pub one_file : FolderState
one_file = folder (by me (recorded x 1) ∷ []) 1 []

abbrev pub two_files : FolderState
two_files = folder (by me (recorded x 1) ∷ by me (recorded y 2) ∷ []) 2 []

-- the file is gone at the second 50
abbrev pub gone : FileRecord
gone = record (recorded x 2) {
  deleted = true;
  size = pos 0;
  blocks = [];
  modified_s = pos 50;
  modified_ns = pos 0;
  version = (9, 50) ∷ [];
}

-- a directory is at its name at the second 9, by a clock that is slow
abbrev pub found_directory : Finding
found_directory = record { content = FoundDirectory; modified_s = pos 9; modified_ns = pos 0 }

abbrev pub directory : FileRecord
directory = record (file ((9, 51) ∷ []) 9) { type_number = pos 1; modified_by = 9; sequence = 3 }

abbrev pub scans : Row
scans =
    (ScanGone x None 0, Unchanged, folder [] 0 [])
    ∷ (ScanFound x None found_abd 0, Recorded 1, one_file)
    ∷ (ScanFound x (Some ((9, 1) ∷ [])) found_abd 5, Unchanged, one_file)
    ∷ (ScanGone x None 50, Moved (Some ((9, 1) ∷ [])), one_file)
    ∷ (ScanGone x (Some ((9, 1) ∷ [])) 50, Recorded 2, folder (by me gone ∷ []) 2 [])
    ∷ (ScanGone x (Some ((9, 50) ∷ [])) 60, Unchanged, folder (by me gone ∷ []) 2 [])
    ∷ (ScanFound x (Some ((9, 50) ∷ [])) found_directory 9, Recorded 3, folder (by me directory ∷ []) 3 [])
    ∷ []

-- P1 saw the local file and deleted it
abbrev pub seen_deletion : FileRecord
seen_deletion = deletion ((1, 1) ∷ (9, 1) ∷ []) 7

abbrev pub deleted_there : FolderState
deleted_there = folder (by me (recorded x 1) ∷ by p1 seen_deletion ∷ []) 1 []

abbrev pub deletion_ticket : PullInfo
deletion_ticket = record { number = 1; name = x; base = Some (recorded x 1); target = seen_deletion }

abbrev pub deletion_pulled : FolderState
deletion_pulled = record deleted_there { pulls = pulls ((x, record { number = 1; base = Some ((9, 1) ∷ []); target = seen_deletion; stage = Pulling }) ∷ []) }

-- ---- numbers that are full

-- this device's counter of P1's version is the greatest
abbrev pub full_target : FileRecord
full_target = record target { version = (9, 18446744073709551615) ∷ [] }

abbrev pub full_ticket : PullInfo
full_ticket = record ticket { target = full_target }

abbrev pub full_pull : PullStage → Pull
full_pull stage = record (pull stage) { target = full_target }

abbrev pub full_state : FolderState
full_state = folder (by me (record full_target { sequence = 1 }) ∷ by p1 full_target ∷ []) 1 []

abbrev pub counter_is_full : Row
counter_is_full =
    (BeginPull x, Begun full_ticket, folder (by p1 full_target ∷ []) 0 ((x, full_pull Pulling) ∷ []))
    ∷ (EnterCommit full_ticket, Entered full_ticket, folder (by p1 full_target ∷ []) 0 ((x, full_pull Committing) ∷ []))
    ∷ (Finish full_ticket full_target, Done 1, full_state)
    ∷ (ScanFound x (Some ((9, 18446744073709551615) ∷ [])) found_abd 0, CounterFull, full_state)
    ∷ []

-- the last sequence is 2^63 - 1
abbrev pub sequences_end : Row
sequences_end =
    (ScanFound x None found_abd 0, Recorded 9223372036854775807, folder (by me (recorded x 9223372036854775807) ∷ []) 9223372036854775807 [])
    ∷ (ScanFound y None found_abd 0, SequenceFull, folder (by me (recorded x 9223372036854775807) ∷ []) 9223372036854775807 [])
    ∷ []

-- an open commit has its sequence
abbrev pub commit_keeps_sequence : Row
commit_keeps_sequence =
    (BeginPull x, Begun ticket, folder (by p1 target ∷ []) 9223372036854775806 ((x, pull Pulling) ∷ []))
    ∷ (EnterCommit ticket, Entered ticket, folder (by p1 target ∷ []) 9223372036854775806 ((x, pull Committing) ∷ []))
    ∷ (ScanFound y None found_abd 0, SequenceFull, folder (by p1 target ∷ []) 9223372036854775806 ((x, pull Committing) ∷ []))
    ∷ (Finish ticket target, Done 9223372036854775807, folder (by me (record target { sequence = 9223372036854775807 }) ∷ by p1 target ∷ []) 9223372036854775807 [])
    ∷ []

-- and none is left for a commit to enter
abbrev pub no_sequence_to_enter : Row
no_sequence_to_enter =
    (BeginPull x, Begun ticket, folder (by p1 target ∷ []) 9223372036854775807 ((x, pull Pulling) ∷ []))
    ∷ (EnterCommit ticket, SequenceFull, folder (by p1 target ∷ []) 9223372036854775807 ((x, pull Pulling) ∷ []))
    ∷ []

-- ---- reads

-- the blocks of the content abd
abbrev pub places_of_abd : List Place
places_of_abd = record { name = x; offset = 0; size = 3 } ∷ record { name = y; offset = 0; size = 3 } ∷ []

-- of each kind another number: local files, directories, deletions; and P1's new files, with a pull of one
abbrev pub local_named : Name → FileRecord → KeyedRecord
local_named n r = by me (record r { name = n })

abbrev pub offered_named : Name → KeyedRecord
offered_named n = by p1 (record (file ((1, 1) ∷ []) 1) { name = n })

abbrev pub of_each_kind : FolderState
of_each_kind = folder
    (local_named (97 ∷ []) (recorded x 1)
    ∷ local_named (98 ∷ []) directory ∷ local_named (99 ∷ []) directory
    ∷ local_named (100 ∷ []) gone ∷ local_named (101 ∷ []) gone ∷ local_named (102 ∷ []) (record gone { type_number = pos 1 })
    ∷ offered_named (103 ∷ []) ∷ offered_named (104 ∷ []) ∷ offered_named (105 ∷ []) ∷ offered_named (106 ∷ [])
    ∷ by p2 (record link { name = 106 ∷ [] }) ∷ [])
    9 ((103 ∷ [], pull Pulling) ∷ [])

abbrev pub counts_of_each_kind : Counts
counts_of_each_kind = record { files = 1; directories = 2; deletions = 3; needed = 4; others = 5; pulls = 1; last = 9 }

abbrev pub counts_of_two : Counts
counts_of_two = record { files = 2; directories = 0; deletions = 0; needed = 0; others = 0; pulls = 0; last = 2 }
