use Rattle.std.proofs.Common.{inr, refl}
use Rattle.file_store.specs.Sequences.{called, not_called}
use Rattle.sync_pull.proofs.copy.move_back.Goals as goal

pub returns-clause-calls : goal.returns-clause-calls
returns-clause-calls g c = called _ _ _ _ not_called (inr (refl, refl)) c.rename.ensures.gives
