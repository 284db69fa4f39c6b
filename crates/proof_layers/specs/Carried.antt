-- What carrying a name from one store to another comes to (own rule).
use Rattle.std.specs.Prelude.{◌≡◌, ◌⊎◌, Option, Some}
use Rattle.file_store.specs.declared.node.Node.{Node}
use Rattle.folder_core.specs.States.{local}
use Rattle.folder_core.specs.declared.answer.Answer.TheVariants.{Begun}
use Rattle.folder_core.specs.declared.change.Change.TheVariants.{BeginPull}
use Rattle.folder_core.specs.declared.pull_info.PullInfo.{PullInfo}
use Rattle.folder_calls.specs.Shared.{CallerView, Gets, now}
use Rattle.sync_record.specs.Devices.{Identity}
use Rattle.sync_record.specs.Records.{Name}
use Rattle.sync_scan.specs.Scans.{GoesOn}
use Rattle.sync_pull.specs.Ends.{Ends, IsNotBegun}
use Rattle.sync_pull.specs.Standing.{StandsAs}
use Rattle.sync_pull.specs.declared.answer.PullAnswer.{PullAnswer}
use Rattle.proof_layers.specs.Alike.{AreAlike}
use Rattle.proof_layers.specs.Alone.{IsAlone}
use Rattle.proof_layers.specs.Told.{IsNewest, told_by}

-- a pull of the name was begun, and what its target says is there
pub record PullsTarget (old : CallerView) (n : Name) (there : Option Node) (new : CallerView) : Type 0 where
  pub ticket : PullInfo
  pub next : CallerView
  pub begun : Gets old (BeginPull n) (Begun ticket) next
  pub since : GoesOn next new
  pub stands : StandsAs (Some ticket.target) there

-- If nobody else changed the one folder nor the other, and if the one device's record of the name is then the newest that the other
-- folder had, both stores hold alike under the name.
abbrev pub Carries : Identity → Name → CallerView → CallerView → CallerView → CallerView → Option Node → Option Node → Type 0
Carries me n one sent other done here there =
    IsAlone one sent → IsAlone other done → IsNewest (now other) me n (local (now sent) n) → AreAlike here there

-- the folder was asked for a pull of the name, and gave this answer where it was to begin, or where it ended
abbrev pub AsksToPull : CallerView → Name → PullAnswer → CallerView → Type 0
AsksToPull old n result new =
    IsNotBegun old n result new
    ⊎ ((ticket : PullInfo) × (next : CallerView) × Gets old (BeginPull n) (Begun ticket) next × Ends next ticket result new)

-- The other folder heard the one device's index: if nobody else changed it meanwhile, it then had just that device's record of the
-- name. Then it was asked for a pull of the name, and this was the answer.
pub record ComesTo (me : Identity) (n : Name) (sent other : CallerView) (result : PullAnswer) (done : CallerView) : Type 0 where
  pub mid : CallerView
  pub heard : GoesOn other mid
  pub told : IsAlone other mid → told_by me (now mid) n ≡ local (now sent) n
  pub asks : AsksToPull mid n result done
