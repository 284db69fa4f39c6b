-- Plans that may still be of a pull that put something in place (own rule).
use Rattle.std.specs.Prelude.{bytes_eq, filter, if◌then◌else◌, List, [], ◌∷◌}
use Rattle.std.specs.List.{list_any}
use Rattle.folder_core.specs.States.{FolderState}
use Rattle.node_replay.specs.Settled.{is_open}
use Rattle.node_replay.specs.declared.plan.PullPlan.{PullPlan}

-- the last plan of each name
abbrev pub lasts : List PullPlan → List PullPlan
lasts [] = []
lasts (p ∷ ps) = if list_any (λ q. bytes_eq q.target.name p.target.name) ps then lasts ps else p ∷ lasts ps

-- those whose base is still the local version
abbrev pub open_plans : FolderState → List PullPlan → List PullPlan
open_plans s ps = filter (is_open s) (lasts ps)
