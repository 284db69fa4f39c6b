-- A folder as one device keeps it.
use Rattle.std.specs.Prelude.{◌≡◌, ℕ, ◌+◌, ◌-◌, ◌^◌, ◌≤◌, Bool, true, false, not, ◌&&◌, ◌||◌, List, map, filter, count_by, Option, Some, None, is_some, option_map, IsTrue, nat_le}
use Rattle.std.specs.FinMap.{FinMap, empty, get, entries}
use Rattle.folder_core.specs.declared.pull_stage.PullStage.{PullStage}
use Rattle.folder_core.specs.declared.pull_stage.PullStage.TheVariants.{Pulling, Committing}
use Rattle.sync_record.specs.Devices.{Identity, bytes_cmp}
use Rattle.sync_record.specs.Records.{Name, FileRecord, is_live}
use Rattle.sync_record.specs.Validity.{is_valid}
use Rattle.sync_version.specs.Computed.{same_version}
use Rattle.sync_version.specs.Versions.{Vector}
use Rattle.folder_core.specs.Announced.{Announced, KeyedRecord, IsNamed, key, bests}

abbrev pub same_stage : PullStage → PullStage → Bool
same_stage Pulling Pulling = true
same_stage Committing Committing = true
same_stage _ _ = false

-- a pull that was begun and isn't closed: its number, the local version at its begin, what is fetched, and how far it is
pub record Pull : Type 0 where
  pub number : ℕ
  pub base : Option Vector
  pub target : FileRecord
  pub stage : PullStage

-- last is the sequence of the last local change; the pulls are by name
pub record FolderState : Type 0 where
  pub me : Identity
  pub announced : Announced
  pub last : ℕ
  pub pulls : FinMap bytes_cmp Pull

-- the folder of this device in which no device announces anything
abbrev pub empty_folder : Identity → FolderState
empty_folder me = record { me = me; announced = empty; last = 0; pulls = empty }

abbrev pub local : FolderState → Name → Option FileRecord
local s n = get s.announced (key n s.me)

abbrev pub local_version : FolderState → Name → Option Vector
local_version s n = option_map (λ r. r.version) (local s n)

abbrev pub same_local_version : Option Vector → Option Vector → Bool
same_local_version None None = true
same_local_version (Some a) (Some b) = same_version a b
same_local_version _ _ = false

-- The best of a name is needed where the local record is absent or of another version, except where
-- the best is deleted and there is no local record.
abbrev pub is_needed : FolderState → KeyedRecord → Bool
is_needed s b =
    not (same_local_version (local_version s b.0.name) (Some b.1.version))
    && (is_live b.1 || is_some (local s b.0.name))

-- the names whose best is needed, in byte order
abbrev pub need : FolderState → List Name
need s = map (λ b. b.0.name) (filter (is_needed s) (bests (entries s.announced)))

abbrev pub is_committing : Pull → Bool
is_committing p = same_stage p.stage Committing

-- no commit of the name is open
abbrev pub NoCommit : FolderState → Name → Type 0
NoCommit s n = (p : Pull) → get s.pulls n ≡ Some p → p.stage ≡ Pulling

-- no two open pulls have the same number
abbrev pub HaveOwnNumbers : FolderState → Type 0
HaveOwnNumbers s = (m n : Name) (p q : Pull) → get s.pulls m ≡ Some p → get s.pulls n ≡ Some q → p.number ≡ q.number → m ≡ n

-- how many commits are open
abbrev pub open_commits : FolderState → ℕ
open_commits s = count_by (λ e. is_committing e.1) (entries s.pulls)

-- the greatest sequence
abbrev pub max_sequence : ℕ
max_sequence = 2 ^ 63 - 1

-- no sequence is left but those of the open commits
abbrev pub is_sequence_full : FolderState → Bool
is_sequence_full s = nat_le (max_sequence - s.last) (open_commits s)

-- the local records have distinct sequences, from 1 to the last one given
pub record IsNumbered (s : FolderState) : Type 0 where
  pub in_range : (n : Name) (r : FileRecord) → local s n ≡ Some r → (1 ≤ r.sequence) × (r.sequence ≤ s.last)
  pub distinct : (m n : Name) (q r : FileRecord) → local s m ≡ Some q → local s n ≡ Some r → q.sequence ≡ r.sequence → m ≡ n

-- What holds of every state that a folder comes to.
pub record IsFolder (s : FolderState) : Type 0 where
  pub named : IsNamed s.announced
  pub valid : (n : Name) (r : FileRecord) → local s n ≡ Some r → IsTrue (is_valid r)
  pub numbered : IsNumbered s
  pub unmoved : (n : Name) (p : Pull) → get s.pulls n ≡ Some p → p.stage ≡ Committing → local_version s n ≡ p.base
  pub targets : (n : Name) (p : Pull) → get s.pulls n ≡ Some p → (p.target.name ≡ n) × IsTrue (is_valid p.target)
  pub room : s.last + open_commits s ≤ max_sequence
