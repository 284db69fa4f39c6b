-- How `PlainFolder` finds and tests its open pulls.
use Rattle.std.specs.Prelude.{bytes_eq, ℕ, Bool, true, false, not, ◌&&◌, ◌||◌, ◌==◌, if◌then◌else◌, List, [], ◌∷◌, filter, Option, Some, None, option_and_then, slice_get}
use Rattle.std.specs.List.{prefix_len, reduce}
use Rattle.std.specs.Option.{option_map_or}
use Rattle.std.specs.Ordering.{is_lt}
use Rattle.folder_core.specs.declared.announcement.Announcement.{Announcement as Entry}
use Rattle.folder_core.specs.declared.answer.Answer.{Answer}
use Rattle.folder_core.specs.declared.answer.Answer.TheVariants.{Busy, NotNeeded, Unsupported, LocalMoved, Superseded, SequenceFull}
use Rattle.folder_core.specs.declared.plain.pull.OpenPull.{OpenPull}
use Rattle.folder_core.specs.declared.plain.pulls.BeginObstacle.{BeginObstacle}
use Rattle.folder_core.specs.declared.plain.pulls.BeginObstacle.TheVariants as begin
use Rattle.folder_core.specs.declared.plain.pulls.EntryObstacle.{EntryObstacle}
use Rattle.folder_core.specs.declared.plain.pulls.EntryObstacle.TheVariants as entry
use Rattle.folder_core.specs.declared.pull_stage.PullStage.{PullStage}
use Rattle.folder_core.specs.declared.pull_info.PullInfo.{PullInfo}
use Rattle.sync_record.specs.Contents.{same_content}
use Rattle.sync_record.specs.Devices.{bytes_cmp}
use Rattle.sync_record.specs.Records.{Name, FileRecord, is_live, is_file, is_directory}
use Rattle.sync_record.specs.Same.{same_record}
use Rattle.sync_version.specs.Computed.{same_version}
use Rattle.folder_core.specs.Plain.{better, is_undominated, stage_of}
use Rattle.folder_core.specs.PlainReads.{is_needed_over, version_of}
use Rattle.folder_core.specs.States.{same_local_version, same_stage}

-- how many pulls are of a lesser name
abbrev pub position_of : Name → List OpenPull → ℕ
position_of n ps = prefix_len (λ p. is_lt (bytes_cmp p.target.name n)) ps

-- the pull is the one that the ticket is for, and is at this stage
abbrev pub is_for : PullInfo → PullStage → OpenPull → Bool
is_for t stage p =
    bytes_eq t.name p.target.name && (p.number == t.number) && same_stage (stage_of p.ready) stage && same_record p.target t.target

abbrev pub pull_for : PullInfo → PullStage → List OpenPull → Option OpenPull
pull_for t stage ps = option_and_then (λ p. if is_for t stage p then Some p else None) (slice_get ps (position_of t.name ps))

-- live, and neither a file nor a directory
abbrev pub is_unsupported : FileRecord → Bool
is_unsupported r = is_live r && not (is_file r || is_directory r)

-- of entries of one name: the best
abbrev pub best_in : List Entry → Option Entry
best_in es = reduce better (filter (is_undominated es) es)

-- of entries of one name: whether the best has the version and the content of the record
abbrev pub is_best_in : List Entry → FileRecord → Bool
is_best_in es r = option_map_or (λ b. same_version b.record.version r.version && same_content b.record r) (best_in es) false

-- the tests of a begin: whether a pull of the name is open, the local record and the best
abbrev pub begin_tests_of : Bool → Option FileRecord → Option Entry → List (Bool × Answer)
begin_tests_of is_open own None = (is_open, Busy) ∷ (true, NotNeeded) ∷ []
begin_tests_of is_open own (Some b) =
    (is_open, Busy)
    ∷ (not (is_needed_over own b.record), NotNeeded)
    ∷ (is_unsupported b.record, Unsupported)
    ∷ []

-- what a begin answers for this reason
abbrev pub begin_refusal : BeginObstacle → Answer
begin_refusal begin.Busy = Busy
begin_refusal begin.NotNeeded = NotNeeded
begin_refusal begin.Unsupported = Unsupported

-- the tests before a commit is entered: the pull, the local record, whether the best is its target still, and whether no sequence is left
abbrev pub entry_tests_of : OpenPull → Option FileRecord → Bool → Bool → List (Bool × Answer)
entry_tests_of p own is_best is_full =
    (not (same_local_version (version_of own) (version_of p.base)), LocalMoved)
    ∷ (not is_best, Superseded)
    ∷ (is_full, SequenceFull)
    ∷ []

-- what is answered where a commit is not entered for this reason
abbrev pub entry_refusal : EntryObstacle → Answer
entry_refusal entry.LocalMoved = LocalMoved
entry_refusal entry.Superseded = Superseded
entry_refusal entry.SequenceFull = SequenceFull
