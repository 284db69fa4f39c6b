-- Which plans of a folder's open pulls are on the disk (own rule).
use Rattle.std.specs.Prelude.{ℕ, ◌+◌, ◌-◌, ◌^◌, nat_eq, nat_le, min, Bool, true, false, not, if◌then◌else◌, List, [], ◌∷◌, ◌++◌, bytes_eq, filter, find, map, Option, Some, None}
use Rattle.sync_record.specs.Records.{Name}
use Rattle.node_keeper.specs.declared.plans.OpenPull.{OpenPull}
use Rattle.node_keeper.specs.declared.plans.PlannedPull.{PlannedPull}
use Rattle.node_keeper.specs.declared.plans.Readiness.{Readiness}
use Rattle.node_keeper.specs.declared.plans.Readiness.TheVariants.{Ready, Waiting, Refused}

-- the open pulls, how many batches of plans began, before which of them all that was noted is on the disk, whether the last one could not be written, and
-- whether a plan could not be noted, out of memory
pub record PlanBook : Type 0 where
  pub pulls : List OpenPull
  pub batch : ℕ
  pub kept : ℕ
  pub is_failing : Bool
  pub has_lost : Bool

abbrev pub no_plans : PlanBook
no_plans = record { pulls = []; batch = 0; kept = 0; is_failing = false; has_lost = false }

abbrev pub first_of : Name → List OpenPull → Option OpenPull
first_of n pulls = find (λ p. bytes_eq p.plan.target.name n) pulls

-- its plan was noted only after the last batch that is on the disk began
abbrev pub is_unsaved : PlanBook → OpenPull → Bool
is_unsaved ps p = nat_le ps.kept p.batch

abbrev pub ready_by : PlanBook → Option OpenPull → Readiness
ready_by ps None = Ready
ready_by ps (Some p) = if is_unsaved ps p then (if ps.is_failing then Refused else Waiting) else Ready

-- whether what was prepared for the name may be put in place
abbrev pub readiness_of : PlanBook → Name → Readiness
readiness_of ps n = if ps.has_lost then Refused else ready_by ps (first_of n ps.pulls)

-- the plans that are not on the disk
abbrev pub unsaved : PlanBook → List PlannedPull
unsaved ps = map (λ p. p.plan) (filter (λ p. is_unsaved ps p) ps.pulls)

-- without the pull of this number
abbrev pub without : ℕ → PlanBook → PlanBook
without number ps = record ps { pulls = filter (λ p. not (nat_eq p.number number)) ps.pulls }

-- with a pull of this number more, whose plan is in the next batch
abbrev pub noted : ℕ → PlannedPull → PlanBook → PlanBook
noted number plan ps = record ps { pulls = ps.pulls ++ record { number = number; batch = ps.batch; plan = plan } ∷ [] }

-- the number of the next batch
abbrev pub next_batch : PlanBook → ℕ
next_batch ps = min (ps.batch + 1) (2 ^ 64 - 1)

-- the batch of this number is on the disk
abbrev pub after_batch : ℕ → PlanBook → PlanBook
after_batch number ps = record ps { kept = number; is_failing = false }
