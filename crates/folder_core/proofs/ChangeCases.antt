-- What a change can come to: the answer of a test, or made after all of its tests failed.
use Rattle.std.proofs.Common.{◌≡◌, ℕ, ◌+◌, Bool, true, false, List, [], ◌∷◌, refl}
use Rattle.std.specs.Prelude.{cond, Option, Some, None, is_some, ⊤}
use Rattle.std.specs.Option.{option_map_or}
use Rattle.std.specs.FinMap.{get, entries}
use Rattle.std.proofs.lemmas.Bool.{cond-true, cond-false}
use Rattle.sync_record.specs.Contents.{same_content}
use Rattle.sync_record.specs.Devices.{Identity}
use Rattle.sync_record.specs.Records.{Name, FileRecord}
use Rattle.sync_version.specs.Versions.{Vector}
use Rattle.folder_core.specs.Announced.{KeyedRecord, announce, without, best}
use Rattle.folder_core.specs.declared.pull_stage.PullStage.TheVariants.{Pulling, Committing}
use Rattle.folder_core.specs.States.{FolderState, Pull, local}
use Rattle.folder_core.specs.declared.answer.Answer.{Answer}
use Rattle.folder_core.specs.declared.answer.Answer.TheVariants.{Recorded, Unchanged, Busy, NotNeeded, Stray, Applied, Closed, Done, Begun, Entered}
use Rattle.folder_core.specs.declared.change.Change.{Change}
use Rattle.folder_core.specs.declared.change.Change.TheVariants.{ScanFound, ScanGone, IndexFull, IndexMore, Forget, BeginPull, EnterCommit, Finish, GiveUp, Abort}
use Rattle.folder_core.specs.declared.finding.Finding.{Finding}
use Rattle.folder_core.specs.declared.pull_info.PullInfo.{PullInfo}
use Rattle.folder_core.specs.Steps.{is_accepted, first_answer, step, scan_found, scan_gone, scan_tests, begin_tests, enter_tests, with_local, with_pull, with_commit, without_pull, found_record, gone_record, committed_record, next_version, next_ticket, begin_pull, enter_commit, finish, close_pull, pull_of}

abbrev pub AllFail : List (Bool × Answer) → Type 0
AllFail [] = ⊤
AllFail (t ∷ ts) = (t.0 ≡ false) × AllFail ts

-- no answer of the tests says that the change was made
abbrev pub AllAnswer : List (Bool × Answer) → Type 0
AllAnswer [] = ⊤
AllAnswer (t ∷ ts) = (is_accepted t.1 ≡ false) × AllAnswer ts

answer-cases : (P : Answer × FolderState → Type 0) (s : FolderState) (tests : List (Bool × Answer)) (made : Answer × FolderState)
    → AllAnswer tests → ((a : Answer) → is_accepted a ≡ false → P (a, s)) → (AllFail tests → P made) → P (first_answer s tests made)
answer-cases P s [] made answering tested go = go tt
answer-cases P s (t ∷ ts) made answering tested go =
    elim (t.0) as (λ b. t.0 ≡ b → P (cond b (t.1, s) (first_answer s ts made))) [
      | true ↦ λ _. tested t.1 answering.0
      | false ↦ λ fails. answer-cases P s ts made answering.1 tested (λ fs. go (fails, fs))
    ] refl

-- the first test holds, or fails and the next decide
pub holds : (s : FolderState) (t : Bool × Answer) (ts : List (Bool × Answer)) (made : Answer × FolderState) → t.0 ≡ true → first_answer s (t ∷ ts) made ≡ (t.1, s)
holds s t ts made e = cond-true t.0 (t.1, s) (first_answer s ts made) e

pub fails : (s : FolderState) (t : Bool × Answer) (ts : List (Bool × Answer)) (made : Answer × FolderState) → t.0 ≡ false → first_answer s (t ∷ ts) made ≡ first_answer s ts made
fails s t ts made e = cond-false t.0 (t.1, s) (first_answer s ts made) e

-- the record of what was found, and the tests before it is kept
abbrev pub found_now : FolderState → Name → Finding → ℕ → FileRecord
found_now s n found moment = found_record s n (next_version s n moment) found

abbrev pub found_tests : FolderState → Name → Option Vector → Finding → ℕ → List (Bool × Answer)
found_tests s n expected found moment = scan_tests s n expected (option_map_or (same_content (found_now s n found moment)) (local s n) false)

-- the record that a name is gone
abbrev pub gone_now : FolderState → Name → FileRecord → ℕ → FileRecord
gone_now s n r moment = gone_record s r (next_version s n moment) moment

-- What has to hold of each outcome, so that it holds of each change.
pub record Cases (s : FolderState) (P : Change → Answer × FolderState → Type 0) : Type 0 where
  pub tested : (c : Change) (a : Answer) → is_accepted a ≡ false → P c (a, s)
  pub found : (n : Name) (expected : Option Vector) (f : Finding) (moment : ℕ) → AllFail (found_tests s n expected f moment)
      → P (ScanFound n expected f moment) (Recorded (s.last + 1), with_local s (found_now s n f moment))
  pub gone : (n : Name) (expected : Option Vector) (moment : ℕ) (r : FileRecord) → local s n ≡ Some r → AllFail (scan_tests s n expected r.deleted)
      → P (ScanGone n expected moment) (Recorded (s.last + 1), with_local s (gone_now s n r moment))
  pub full : (d : Identity) (rs : List FileRecord) → P (IndexFull d rs) (Applied, record s { announced = announce d rs (without d s.announced) })
  pub more : (d : Identity) (rs : List FileRecord) → P (IndexMore d rs) (Applied, record s { announced = announce d rs s.announced })
  pub forgotten : (d : Identity) → P (Forget d) (Applied, record s { announced = without d s.announced })
  pub begun : (n : Name) (b : KeyedRecord) → best (entries s.announced) n ≡ Some b → AllFail (begin_tests s n b)
      → P (BeginPull n) (Begun (next_ticket s n b.1), with_pull s (next_ticket s n b.1) Pulling)
  pub entered : (t : PullInfo) (p : Pull) → pull_of s t Pulling ≡ Some p → AllFail (enter_tests s t.name p)
      → P (EnterCommit t) (Entered t, with_commit s t.name p)
  pub finished : (t : PullInfo) (assembled : FileRecord) (p : Pull) → pull_of s t Committing ≡ Some p
      → P (Finish t assembled) (Done (s.last + 1), without_pull (with_local s (committed_record p.base p.target)) t.name)
  pub given_up : (t : PullInfo) (p : Pull) → pull_of s t Pulling ≡ Some p → P (GiveUp t) (Closed, without_pull s t.name)
  pub aborted : (t : PullInfo) (p : Pull) → pull_of s t Committing ≡ Some p → P (Abort t) (Closed, without_pull s t.name)

module _ (s : FolderState) (P : Change → Answer × FolderState → Type 0) (c : Cases s P) where
  found-cases : (n : Name) (expected : Option Vector) (f : Finding) (moment : ℕ) → P (ScanFound n expected f moment) (scan_found s n expected f moment)
  found-cases n expected f moment =
      answer-cases (P (ScanFound n expected f moment)) s (found_tests s n expected f moment)
      (Recorded (s.last + 1), with_local s (found_now s n f moment))
      (refl, (refl, (refl, (refl, (refl, tt))))) (c.tested _) (c.found n expected f moment)

  gone-cases : (n : Name) (expected : Option Vector) (moment : ℕ) (r : Option FileRecord) → local s n ≡ r → P (ScanGone n expected moment) (scan_gone s n expected moment r)
  gone-cases n expected moment None is =
      answer-cases (P (ScanGone n expected moment)) s (scan_tests s n expected true) (Unchanged, s)
      (refl, (refl, (refl, (refl, (refl, tt))))) (c.tested _) (λ _. c.tested _ Unchanged refl)
  gone-cases n expected moment (Some r) is =
      answer-cases (P (ScanGone n expected moment)) s (scan_tests s n expected r.deleted)
      (Recorded (s.last + 1), with_local s (gone_now s n r moment))
      (refl, (refl, (refl, (refl, (refl, tt))))) (c.tested _) (c.gone n expected moment r is)

  begin-cases : (n : Name) (b : Option KeyedRecord) → best (entries s.announced) n ≡ b → P (BeginPull n) (begin_pull s n b)
  begin-cases n None is =
      answer-cases (P (BeginPull n)) s ((is_some (get s.pulls n), Busy) ∷ []) (NotNeeded, s)
      (refl, tt) (c.tested _) (λ _. c.tested _ NotNeeded refl)
  begin-cases n (Some b) is =
      answer-cases (P (BeginPull n)) s (begin_tests s n b) (Begun (next_ticket s n b.1), with_pull s (next_ticket s n b.1) Pulling)
      (refl, (refl, (refl, tt))) (c.tested _) (c.begun n b is)

  enter-cases : (t : PullInfo) (p : Option Pull) → pull_of s t Pulling ≡ p → P (EnterCommit t) (enter_commit s t p)
  enter-cases t None is = c.tested _ Stray refl
  enter-cases t (Some p) is =
      answer-cases (P (EnterCommit t)) s (enter_tests s t.name p) (Entered t, with_commit s t.name p)
      (refl, (refl, (refl, tt))) (c.tested _) (c.entered t p is)

  finish-cases : (t : PullInfo) (assembled : FileRecord) (p : Option Pull) → pull_of s t Committing ≡ p → P (Finish t assembled) (finish s t p)
  finish-cases t assembled None is = c.tested _ Stray refl
  finish-cases t assembled (Some p) is = c.finished t assembled p is

  give_up-cases : (t : PullInfo) (p : Option Pull) → pull_of s t Pulling ≡ p → P (GiveUp t) (close_pull s t p)
  give_up-cases t None is = c.tested _ Stray refl
  give_up-cases t (Some p) is = c.given_up t p is

  abort-cases : (t : PullInfo) (p : Option Pull) → pull_of s t Committing ≡ p → P (Abort t) (close_pull s t p)
  abort-cases t None is = c.tested _ Stray refl
  abort-cases t (Some p) is = c.aborted t p is

  pub step-cases : (x : Change) → P x (step s x)
  step-cases (ScanFound n expected f moment) = found-cases n expected f moment
  step-cases (ScanGone n expected moment) = gone-cases n expected moment (local s n) refl
  step-cases (IndexFull d rs) = c.full d rs
  step-cases (IndexMore d rs) = c.more d rs
  step-cases (Forget d) = c.forgotten d
  step-cases (BeginPull n) = begin-cases n (best (entries s.announced) n) refl
  step-cases (EnterCommit t) = enter-cases t (pull_of s t Pulling) refl
  step-cases (Finish t assembled) = finish-cases t assembled (pull_of s t Committing) refl
  step-cases (GiveUp t) = give_up-cases t (pull_of s t Pulling) refl
  step-cases (Abort t) = abort-cases t (pull_of s t Committing) refl
