-- What each change of a folder answers, and the state that it leaves.
use Rattle.std.specs.Prelude.{◌≡◌, ◌≢◌, ⊤, IsTrue, ◌||◌, option_and_then, ℕ, ◌+◌, ◌^◌, nat_lt, Bool, true, false, not, ◌&&◌, ◌==◌, ℤ, pos, if◌then◌else◌, List, [], ◌∷◌, length, map, find, Option, Some, None, is_some, option_map, unwrap_or}
use Rattle.std.specs.List.{list_any, range_with_len}
use Rattle.std.specs.Option.{option_map_or}
use Rattle.std.specs.Ordering.{int_eq}
use Rattle.std.specs.FinMap.{get, insert, remove, entries}
use Rattle.folder_core.specs.declared.pull_stage.PullStage.{PullStage}
use Rattle.folder_core.specs.declared.pull_stage.PullStage.TheVariants.{Pulling, Committing}
use Rattle.folder_core.specs.declared.answer.Answer.{Answer}
use Rattle.folder_core.specs.declared.answer.Answer.TheVariants.{Busy, Unchanged, CounterFull, SequenceFull, NotNeeded, Unsupported, Stray, LocalMoved, Superseded, Applied, Closed, Moved, Recorded, Done, Begun, Entered}
use Rattle.folder_core.specs.declared.change.Change.{Change}
use Rattle.folder_core.specs.declared.change.Change.TheVariants.{ScanFound, ScanGone, IndexFull, IndexMore, Forget, BeginPull, EnterCommit, Finish, GiveUp, Abort}
use Rattle.folder_core.specs.declared.finding.Finding.{Finding}
use Rattle.folder_core.specs.declared.finding.FoundContent.{FoundContent}
use Rattle.folder_core.specs.declared.finding.FoundContent.TheVariants.{Directory as FoundDirectory, File as FoundFile}
use Rattle.folder_core.specs.declared.pull_info.PullInfo.{PullInfo}
use Rattle.sync_record.specs.Assemblies.{IsAssembled}
use Rattle.sync_record.specs.Contents.{same_content}
use Rattle.sync_record.specs.Devices.{Identity, short_id}
use Rattle.sync_record.specs.Records.{Name, FileRecord, is_live, is_file, is_directory}
use Rattle.sync_record.specs.Same.{same_record}
use Rattle.sync_record.specs.Validity.{describes_file}
use Rattle.sync_version.specs.Computed.{same_version, covers, merge, raised, is_counter_full}
use Rattle.sync_version.specs.Versions.{Vector, counter}
use Rattle.folder_core.specs.Announced.{KeyedRecord, key, announce, without, best}
use Rattle.folder_core.specs.States.{same_stage, Pull, FolderState, local, local_version, same_local_version, is_needed, is_committing, is_sequence_full}

-- a directory, or a file as the record of a valid file describes one, whose size fits a record
abbrev pub is_recordable : FoundContent → Bool
is_recordable FoundDirectory = true
is_recordable (FoundFile size block_size blocks) = nat_lt size (2 ^ 63) && describes_file (pos size) (pos block_size) blocks

-- these answers say that the change was made; every other leaves the state
abbrev pub is_accepted : Answer → Bool
is_accepted Applied = true
is_accepted Closed = true
is_accepted (Recorded n) = true
is_accepted (Done n) = true
is_accepted (Begun t) = true
is_accepted (Entered t) = true
is_accepted _ = false

-- the answer of the first test that holds, and the state as it was; the given ones where no test holds
abbrev pub first_answer : FolderState → List (Bool × Answer) → Answer × FolderState → Answer × FolderState
first_answer s [] made = made
first_answer s (t ∷ ts) made = if t.0 then (t.1, s) else first_answer s ts made

-- the state with this local record, under the next sequence
abbrev pub with_local : FolderState → FileRecord → FolderState
with_local s r = record s {
  announced = insert s.announced (key r.name s.me) (record r { sequence = s.last + 1 });
  last = s.last + 1;
}

-- a record of this device's own making: what an application of permissions would need isn't kept
abbrev pub own_record : FolderState → FileRecord → FileRecord
own_record s r = record r { permissions = 0; no_permissions = true; modified_by = short_id s.me; invalid = false }

abbrev pub with_content : FoundContent → FileRecord → FileRecord
with_content FoundDirectory r = record r { type_number = pos 1 }
with_content (FoundFile size block_size blocks) r = record r { size = pos size; block_size = pos block_size; blocks = blocks }

-- what is recorded of what was found
abbrev pub found_record : FolderState → Name → Vector → Finding → FileRecord
found_record s n v found = own_record s (with_content found.content (record {
  name = n;
  type_number = pos 0;
  size = pos 0;
  permissions = 0;
  modified_s = found.modified_s;
  modified_ns = found.modified_ns;
  modified_by = 0;
  deleted = false;
  invalid = false;
  no_permissions = true;
  version = v;
  sequence = 0;
  block_size = pos 131072;
  blocks = [];
  symlink_target = [];
}))

-- what is recorded of a name that is gone
abbrev pub gone_record : FolderState → FileRecord → Vector → ℕ → FileRecord
gone_record s r v moment = own_record s (record r {
  deleted = true;
  size = pos 0;
  blocks = [];
  modified_s = pos moment;
  modified_ns = pos 0;
  version = v;
})

-- the version after a change of the name by this device
abbrev pub next_version : FolderState → Name → ℕ → Vector
next_version s n moment = raised (unwrap_or (local_version s n) []) (short_id s.me) moment

-- this device's counter in the local version, 0 without one
abbrev pub own_counter : FolderState → Name → ℕ
own_counter s n = counter (unwrap_or (local_version s n) []) (short_id s.me)

-- what was found isn't what the local record has, if there is one
abbrev pub HasNewContent : FolderState → Name → Finding → ℕ → Type 0
HasNewContent s n f moment =
    (r : FileRecord) → local s n ≡ Some r → same_content (found_record s n (next_version s n moment) f) r ≡ false

abbrev pub is_pull_committing : FolderState → Name → Bool
is_pull_committing s n = option_map_or is_committing (get s.pulls n) false

-- the tests that both scans begin with, and those that they end with
abbrev pub scan_tests : FolderState → Name → Option Vector → Bool → List (Bool × Answer)
scan_tests s n expected is_unchanged =
    (is_pull_committing s n, Busy)
    ∷ (not (same_local_version (local_version s n) expected), Moved (local_version s n))
    ∷ (is_unchanged, Unchanged)
    ∷ (is_counter_full (unwrap_or (local_version s n) []) (short_id s.me), CounterFull)
    ∷ (is_sequence_full s, SequenceFull)
    ∷ []

abbrev pub scan_found : FolderState → Name → Option Vector → Finding → ℕ → Answer × FolderState
scan_found s n expected found moment =
    let r : FileRecord = found_record s n (next_version s n moment) found in
    first_answer s (scan_tests s n expected (option_map_or (same_content r) (local s n) false))
    (Recorded (s.last + 1), with_local s r)

abbrev pub scan_gone : FolderState → Name → Option Vector → ℕ → Option FileRecord → Answer × FolderState
scan_gone s n expected moment None = first_answer s (scan_tests s n expected true) (Unchanged, s)
scan_gone s n expected moment (Some r) =
    first_answer s (scan_tests s n expected r.deleted)
    (Recorded (s.last + 1), with_local s (gone_record s r (next_version s n moment) moment))

-- the least of 1, 2, .. that isn't among the numbers
abbrev pub least_free : List ℕ → ℕ
least_free used = unwrap_or (find (λ n. not (list_any (λ m. m == n) used)) (range_with_len 1 (length used + 1))) 0

abbrev pub next_ticket : FolderState → Name → FileRecord → PullInfo
next_ticket s n target = record {
  number = least_free (map (λ e. e.1.number) (entries s.pulls));
  name = n;
  base = local s n;
  target = target;
}

abbrev pub with_pull : FolderState → PullInfo → PullStage → FolderState
with_pull s t stage = record s {
  pulls = insert s.pulls t.name (record {
    number = t.number;
    base = option_map (λ r. r.version) t.base;
    target = t.target;
    stage = stage;
  });
}

abbrev pub begin_tests : FolderState → Name → KeyedRecord → List (Bool × Answer)
begin_tests s n b =
    (is_some (get s.pulls n), Busy)
    ∷ (not (is_needed s b), NotNeeded)
    ∷ (is_live b.1 && not (is_file b.1 || is_directory b.1), Unsupported)
    ∷ []

abbrev pub begin_pull : FolderState → Name → Option KeyedRecord → Answer × FolderState
begin_pull s n None = first_answer s ((is_some (get s.pulls n), Busy) ∷ []) (NotNeeded, s)
begin_pull s n (Some b) =
    first_answer s (begin_tests s n b) (Begun (next_ticket s n b.1), with_pull s (next_ticket s n b.1) Pulling)

-- the open pull that the ticket is for, at this stage; else the ticket is stray
abbrev pub pull_of : FolderState → PullInfo → PullStage → Option Pull
pull_of s t stage = option_and_then (λ p.
    if (p.number == t.number) && same_record p.target t.target && same_stage p.stage stage then Some p else None) (get s.pulls t.name)

-- the ticket is for this open pull, which is at this stage
pub record IsFor (s : FolderState) (t : PullInfo) (stage : PullStage) (p : Pull) : Type 0 where
  pub open_pull : get s.pulls t.name ≡ Some p
  pub at_stage : p.stage ≡ stage
  pub number : p.number ≡ t.number
  pub target : p.target ≡ t.target

-- the best of the name has the version and the content
abbrev pub is_still_best : FolderState → FileRecord → Bool
is_still_best s r = option_map_or (λ b. same_version b.1.version r.version && same_content b.1 r) (best (entries s.announced) r.name) false

abbrev pub enter_tests : FolderState → Name → Pull → List (Bool × Answer)
enter_tests s n p =
    (not (same_local_version (local_version s n) p.base), LocalMoved)
    ∷ (not (is_still_best s p.target), Superseded)
    ∷ (is_sequence_full s, SequenceFull)
    ∷ []

abbrev pub with_commit : FolderState → Name → Pull → FolderState
with_commit s n p = record s { pulls = insert s.pulls n (record p { stage = Committing }) }

abbrev pub enter_commit : FolderState → PullInfo → Option Pull → Answer × FolderState
enter_commit s t None = (Stray, s)
enter_commit s t (Some p) = first_answer s (enter_tests s t.name p) (Entered t, with_commit s t.name p)

abbrev pub without_pull : FolderState → Name → FolderState
without_pull s n = record s { pulls = remove s.pulls n }

-- what is announced once the target was put in the place of the base
abbrev pub committed_record : Option Vector → FileRecord → FileRecord
committed_record base target = record target { version = merge (unwrap_or base []) target.version }

abbrev pub finish : FolderState → PullInfo → Option Pull → Answer × FolderState
finish s c None = (Stray, s)
finish s c (Some p) = (Done (s.last + 1), without_pull (with_local s (committed_record p.base p.target)) c.name)

abbrev pub close_pull : FolderState → PullInfo → Option Pull → Answer × FolderState
close_pull s t None = (Stray, s)
close_pull s t (Some p) = (Closed, without_pull s t.name)

abbrev pub step : FolderState → Change → Answer × FolderState
step s (ScanFound n expected found moment) = scan_found s n expected found moment
step s (ScanGone n expected moment) = scan_gone s n expected moment (local s n)
step s (IndexFull d records) = (Applied, record s { announced = announce d records (without d s.announced) })
step s (IndexMore d records) = (Applied, record s { announced = announce d records s.announced })
step s (Forget d) = (Applied, record s { announced = without d s.announced })
step s (BeginPull n) = begin_pull s n (best (entries s.announced) n)
step s (EnterCommit t) = enter_commit s t (pull_of s t Pulling)
step s (Finish c assembled) = finish s c (pull_of s c Committing)
step s (GiveUp t) = close_pull s t (pull_of s t Pulling)
step s (Abort c) = close_pull s c (pull_of s c Committing)

-- What a caller of this device's folder has to ensure: an index is another device's; what was found is a directory or a
-- file; what is committed is the commit's target, and of each of its blocks some bytes have the size and the digest.
abbrev pub MayChange : Identity → Change → Type 0
MayChange me (IndexFull d records) = d ≢ me
MayChange me (IndexMore d records) = d ≢ me
MayChange me (Forget d) = d ≢ me
MayChange me (ScanFound n expected found moment) = IsTrue (is_recordable found.content)
MayChange me (Finish c assembled) = (assembled ≡ c.target) × IsAssembled assembled
MayChange me _ = ⊤

-- The local file is kept under another name where copies are kept at all, both are live, the base is a file, neither
-- version covers the other, and the contents differ. Of most copies -1 says that there may be any number.
abbrev pub is_copy_due : ℤ → Option FileRecord → FileRecord → Bool
is_copy_due most_copies None target = false
is_copy_due most_copies (Some base) target =
    not (int_eq most_copies (pos 0)) && is_live target && is_live base && is_file base
    && not (covers base.version target.version) && not (covers target.version base.version)
    && not (same_content base target)
