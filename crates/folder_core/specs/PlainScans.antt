-- What the scans of `PlainFolder` test, from what is there.
use Rattle.std.specs.Prelude.{bytes_eq, ℕ, ◌-◌, nat_le, is_some, Bool, true, pos, ◌&&◌, not, if◌then◌else◌, List, [], ◌∷◌, Option, Some, None, unwrap_or}
use Rattle.sync_record.specs.Own.{directory_record, file_record}
use Rattle.sync_record.specs.Records.{Name, FileRecord}
use Rattle.sync_record.specs.declared.own.Edit.{Edit}
use Rattle.sync_version.specs.Computed.{is_counter_full}
use Rattle.sync_version.specs.Versions.{Vector}
use Rattle.std.specs.List.{list_any}
use Rattle.folder_core.specs.declared.plain.pull.OpenPull.{OpenPull}
use Rattle.folder_core.specs.declared.plain.scan.Obstacle.{Obstacle}
use Rattle.folder_core.specs.declared.plain.scan.Obstacle.TheVariants as obstacle
use Rattle.folder_core.specs.Plain.{commits}
use Rattle.folder_core.specs.States.{max_sequence, same_local_version}
use Rattle.folder_core.specs.declared.answer.Answer.{Answer}
use Rattle.folder_core.specs.declared.answer.Answer.TheVariants.{Busy, Moved, Unchanged, CounterFull, SequenceFull}
use Rattle.folder_core.specs.declared.finding.Finding.{Finding}
use Rattle.folder_core.specs.declared.finding.FoundContent.{FoundContent}
use Rattle.folder_core.specs.declared.finding.FoundContent.TheVariants.{Directory as FoundDirectory, File as FoundFile}

-- the answer of the first test that holds, if one does
abbrev pub first_of : List (Bool × Answer) → Option Answer
first_of [] = None
first_of (t ∷ ts) = if t.0 then Some t.1 else first_of ts

-- the tests of a scan: whether a commit is open, the local version and the expected one, whether the content is the local
-- one, this device's short id, and whether no sequence is left
abbrev pub tests_of : Bool → Option Vector → Option Vector → Bool → ℕ → Bool → List (Bool × Answer)
tests_of is_committing version expected is_unchanged id is_full =
    (is_committing, Busy)
    ∷ (not (same_local_version version expected), Moved version)
    ∷ (is_unchanged, Unchanged)
    ∷ (is_counter_full (unwrap_or version []) id, CounterFull)
    ∷ (is_full, SequenceFull)
    ∷ []

-- what a scan answers for this reason, where this is the local version
abbrev pub obstacle_answer : Option Vector → Obstacle → Answer
obstacle_answer version obstacle.Busy = Busy
obstacle_answer version obstacle.Moved = Moved version
obstacle_answer version obstacle.Unchanged = Unchanged
obstacle_answer version obstacle.CounterFull = CounterFull
obstacle_answer version obstacle.SequenceFull = SequenceFull

-- the change to what was found, by the device of this short id
abbrev pub edit_of : Vector → ℕ → Finding → Edit
edit_of version id found = record { version = version; modified_s = found.modified_s; modified_by = id; modified_ns = found.modified_ns }

-- the deletion of a name at a moment
abbrev pub deletion_edit : Vector → ℕ → ℕ → Edit
deletion_edit version id moment = record { version = version; modified_s = pos moment; modified_by = id; modified_ns = pos 0 }

-- the record of what was found, after the edit
abbrev pub content_record : Name → Edit → FoundContent → FileRecord
content_record name edit FoundDirectory = directory_record name edit
content_record name edit (FoundFile size block_size blocks) = file_record name size block_size blocks edit

-- a commit of the name is open
abbrev pub has_commit : Name → List OpenPull → Bool
has_commit n ps = list_any (λ p. bytes_eq p.target.name n && is_some p.ready) ps

-- no sequence is left but those of the open commits
abbrev pub is_full : ℕ → List OpenPull → Bool
is_full last ps = nat_le (max_sequence - last) (commits ps)

-- there is no live record
abbrev pub is_gone : Option FileRecord → Bool
is_gone None = true
is_gone (Some r) = r.deleted
