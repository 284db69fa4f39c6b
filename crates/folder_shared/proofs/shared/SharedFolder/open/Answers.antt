use Rattle.std.proofs.Common.{ap}
use Rattle.folder_shared.specs.declared.known.Known.{Known}
use Rattle.folder_shared.proofs.Moves.{opens}
use Rattle.folder_shared.proofs.shared.SharedFolder.open.Goals as goal

pub put-requires-clause-rule : goal.put-requires-clause-rule
put-requires-clause-rule g c = (opens _ _ _ _ (ap (λ (v : Known). v.state) c.in-Ok.ensures.3), λ items views k at. tt)
