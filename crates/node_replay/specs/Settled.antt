-- What becomes of the plans of pulls (own rule).
use Rattle.std.specs.Prelude.{◌≡◌, ◌+◌, ◌<◌, Bool, true, false, ◌&&◌, if◌then◌else◌, List, [], ◌∷◌, ◌++◌, length, map, fold, Some}
use Rattle.folder_core.specs.Announced.{announce}
use Rattle.folder_core.specs.States.{FolderState, local_version, max_sequence, same_local_version}
use Rattle.folder_core.specs.Steps.{committed_record, with_local}
use Rattle.sync_record.specs.Records.{FileRecord}
use Rattle.sync_version.specs.Computed.{covers}
use Rattle.sync_version.specs.Versions.{IsCanonical, Vector}
use Rattle.node_replay.specs.declared.plan.PullPlan.{PullPlan}

-- the base of the plan is still the local version
abbrev pub is_open : FolderState → PullPlan → Bool
is_open s p = same_local_version (local_version s p.target.name) p.base

-- A plan, with whether its target stands on the disk: where it does, and the plan is open, the pull is finished; else all stays.
abbrev pub settled : FolderState → PullPlan × Bool → FolderState
settled s (p, stands) = if stands && is_open s p then with_local s (committed_record p.base p.target) else s

-- ---- what is asked of the disk, which tells this of a record

-- whether the plan's target stands there, where the plan is open; else nothing
abbrev pub IsTold : {D : Type 0} → (D → FileRecord → Bool → D → Type 0) → Bool → PullPlan × Bool → D → D → Type 0
IsTold tells true (p, stands) d e = tells d p.target stands e
IsTold tells false (p, stands) d e = e ≡ d

-- of each plan at its turn, one after another
abbrev pub AreTold : {D : Type 0} → (D → FileRecord → Bool → D → Type 0) → FolderState → D → List (PullPlan × Bool) → D → Type 0
AreTold tells s d [] e = e ≡ d
AreTold {D} tells s d (a ∷ answers) e = (next : D) × IsTold tells (is_open s a.0) a d next × AreTold tells (settled s a) next answers e

-- The last folder is what the first one is after all these plans, by what the disk told.
pub record IsSettled {D : Type 0} (tells : D → FileRecord → Bool → D → Type 0) (s : FolderState) (d : D) (plans : List PullPlan) (t : FolderState) (e : D) : Type 0 where
  pub answers : List (PullPlan × Bool)
  pub all : map (λ a. a.0) answers ≡ plans
  pub told : AreTold tells s d answers e
  pub is : t ≡ fold settled s answers

-- After a beginning of the plans the last sequence would be no sequence.
pub record IsFull {D : Type 0} (tells : D → FileRecord → Bool → D → Type 0) (s : FolderState) (d : D) (plans : List PullPlan) (e : D) : Type 0 where
  pub answers : List (PullPlan × Bool)
  pub rest : List PullPlan
  pub beginning : map (λ a. a.0) answers ++ rest ≡ plans
  pub told : AreTold tells s d answers e
  pub full : max_sequence < (fold settled s answers).last

-- the folder after it announced these records too, each with the next sequence
abbrev pub advanced : FolderState → List FileRecord → FolderState
advanced s rs = record s { announced = announce s.me rs s.announced; last = s.last + length rs }

-- the target has a change that its base had not seen
pub record HasNews (p : PullPlan) : Type 0 where
  pub target : IsCanonical p.target.version
  pub base : (v : Vector) → p.base ≡ Some v → IsCanonical v × (covers v p.target.version ≡ false)
