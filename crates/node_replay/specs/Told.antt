-- What the frames of a journal tell of a folder (own rule).
use Rattle.std.specs.Prelude.{ℕ, ◌==◌, Bool, ◌&&◌, ◌||◌, if◌then◌else◌, List, map, filter, flat_map, fold, bytes_eq, Option, Some, None}
use Rattle.sync_record.specs.Infos.{natural, record_of, version_of}
use Rattle.sync_record.specs.Records.{FileRecord, is_directory, is_file}
use Rattle.sync_record.specs.Validity.{is_valid}
use Rattle.sync_version.specs.Versions.{Vector}
use Rattle.node_journal.specs.declared.frame.Frame.{Frame}
use Rattle.node_journal.specs.declared.part.Part.{Part}
use Rattle.node_journal.specs.declared.plan.Plan.{Plan}
use Rattle.node_replay.specs.declared.plan.PullPlan.{PullPlan}

-- ---- a plan

abbrev pub base_of : Plan → Option Vector
base_of p = if p.has_base then Some (version_of p.base.counters) else None

abbrev pub plan_of : Plan → PullPlan
plan_of p = record { base = base_of p; target = record_of p.target }

-- what a pull can put in place: a valid record of a deletion, a file or a directory
abbrev pub is_pullable : FileRecord → Bool
is_pullable r = is_valid r && (r.deleted || (is_file r || is_directory r))

-- ---- the parts of a folder

-- in the order of the frames
abbrev pub parts_of : List ℕ → List Frame → List Part
parts_of id frames = filter (λ p. bytes_eq p.id id) (flat_map (λ f. f.folders) frames)

abbrev pub records_told : List Part → List FileRecord
records_told parts = flat_map (λ p. map record_of p.records) parts

abbrev pub plans_told : List Part → List PullPlan
plans_told parts = flat_map (λ p. map plan_of p.plans) parts

-- the last sequences that they say
abbrev pub lasts_told : List Part → List ℕ
lasts_told parts = map (λ p. natural p.last) parts

-- the last index id that one of them says, or the one before
abbrev pub number_after : ℕ → List Part → ℕ
number_after before parts = fold (λ n p. if p.index_id == 0 then n else p.index_id) before parts
