-- When a fetch waits for a peer, and what it then gives (own rule).
use Rattle.std.specs.Prelude.{◌≡◌, ◌==◌, ◌+◌, ◌-◌, ℕ, zero, suc, Bool, true, false, if◌then◌else◌, List, nat_lt, Option, Some, None}
use Rattle.sync_blocks.specs.declared.block.Block.{Block}
use Rattle.sync_record.specs.Devices.{Identity}
use Rattle.sync_record.specs.Records.{Name}
use Rattle.node_pull.specs.declared.patience.NextStep.{NextStep}
use Rattle.node_pull.specs.declared.patience.NextStep.TheVariants.{GiveUp, AskAgain, Wait}

-- a device gave nothing over the connection before, and this is the one after: over one that lasted, it is given up; one that came since is asked
-- again; where there is none, another device has its turn, or one is waited for
abbrev pub next_step : Option ℕ → Option ℕ → Bool → NextStep
next_step None (Some b) other = AskAgain
next_step (Some a) (Some b) other = if a == b then GiveUp else AskAgain
next_step before None true = GiveUp
next_step before None false = Wait

-- four wait at most
abbrev pub may_wait : ℕ → Bool
may_wait count = nat_lt count 4

abbrev pub one_more : ℕ → ℕ
one_more count = if may_wait count then count + 1 else count

abbrev pub one_less : ℕ → ℕ
one_less count = count - 1

module _ {S : Type 0} (gives : S → Identity → Name → Block → Bool → List ℕ → S → Type 0) where
  -- the device was asked for the block so many times, and gave nothing
  abbrev pub GaveNone : ℕ → Identity → Name → Block → S → S → Type 0
  GaveNone zero device n block old new = new ≡ old
  GaveNone (suc times) device n block old new = (between : S) × (bytes : List ℕ) × GaveNone times device n block old between × gives between device n block false bytes new

  -- the device was asked for the block, also more than once where it gave nothing, and this is what it gave at last
  abbrev pub GivesAtLast : S → Identity → Name → Block → Bool → List ℕ → S → Type 0
  GivesAtLast old device n block given bytes new = (times : ℕ) × (last : S) × GaveNone times device n block old last × gives last device n block given bytes new
