use Rattle.std.proofs.Common.{ap, ◌∙◌}
use Rattle.folder_shared.specs.declared.known.Known.{Known}
use Rattle.folder_shared.proofs.Moves.{takes}
use Rattle.folder_shared.proofs.lock.take.Goals as goal

pub recv_as-requires-clause-rule : goal.recv_as-requires-clause-rule
recv_as-requires-clause-rule g c = (takes _ _ (ap (λ (v : Known). v.state) c.loop.invariant.1 ∙ c.requires.idle), λ items views k at. tt)

pub returns-in-Ok-clause-taken : goal.returns-in-Ok-clause-taken
returns-in-Ok-clause-taken g c = rw (← c.loop.invariant.1) c.in-Ok.ensures.rule
