-- How the faults of a store are counted in a pull, and why a pull fails (own rule).
use Rattle.std.specs.Prelude.{◌≡◌, ◌⊎◌, ⊤, ℕ, ◌+◌, ◌-◌, ◌^◌, ◌<◌, ◌≤◌, min, Result, Ok, Err}
use Rattle.sync_pull.specs.declared.answer.PullAnswer.{PullAnswer}
use Rattle.sync_pull.specs.declared.answer.PullAnswer.TheVariants.{Done, NotNeeded, Busy, Unsupported, LocalMoved, Superseded, Refused, Failed}
use Rattle.sync_pull.specs.declared.answer.PullFailure.{PullFailure}
use Rattle.sync_pull.specs.declared.answer.PullFailure.TheVariants.{StoreFault, NoSource, LocalChanged, ConflictNameTaken, NotEmpty, BadParent}
use Rattle.sync_pull.specs.declared.answer.Stop.{Stop}
use Rattle.sync_pull.specs.declared.answer.Stop.TheVariants as stop

-- a fault was counted: the count of faults rose, or is at its greatest value
abbrev pub IsFaultCounted : ℕ → ℕ → Type 0
IsFaultCounted before after = ((before < after) × (after ≤ 2 ^ 64 - 1)) ⊎ (after ≡ 2 ^ 64 - 1)

-- faults were counted, or there were none
abbrev pub CountsFaults : ℕ → ℕ → Type 0
CountsFaults before after = (after ≡ before) ⊎ IsFaultCounted before after

-- if it stops for a failure, this is why
abbrev pub StopsFor : (PullFailure → Type 0) → Stop → Type 0
StopsFor why stop.OutOfMemory = ⊤
StopsFor why (stop.Failed failure) = why failure

-- if a pull failed, this is why
abbrev pub FailsFor : (PullFailure → Type 0) → PullAnswer → Type 0
FailsFor why (Done k) = ⊤
FailsFor why NotNeeded = ⊤
FailsFor why Busy = ⊤
FailsFor why Unsupported = ⊤
FailsFor why LocalMoved = ⊤
FailsFor why Superseded = ⊤
FailsFor why (Refused refusal) = ⊤
FailsFor why (Failed failure) = why failure

-- What stops the fetching of blocks: a fault that is counted, out of memory, or, if these may be, no source, or a parent of
-- the name that is a file.
abbrev pub StopCounts : Type 0 → Type 0 → Stop → ℕ → ℕ → Type 0
StopCounts source parent stop.OutOfMemory before after = after ≡ before
StopCounts source parent (stop.Failed StoreFault) before after = after ≡ min (before + 1) (2 ^ 64 - 1)
StopCounts source parent (stop.Failed NoSource) before after = source × (after ≡ before)
StopCounts source parent (stop.Failed LocalChanged) before after = ⊥
StopCounts source parent (stop.Failed ConflictNameTaken) before after = ⊥
StopCounts source parent (stop.Failed NotEmpty) before after = ⊥
StopCounts source parent (stop.Failed BadParent) before after = parent × (after ≡ before)

-- they are fetched without a fault, or that stops it
abbrev pub CountsStop : {X : Type 0} → Type 0 → Type 0 → Result X Stop → ℕ → ℕ → Type 0
CountsStop source parent (Ok x) before after = after ≡ before
CountsStop source parent (Err why) before after = StopCounts source parent why before after
