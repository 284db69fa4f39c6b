use Rattle.std.proofs.Common.{refl}
use Rattle.file_store.specs.Sequences.{called, not_called}
use Rattle.sync_pull.proofs.commit_pull.drop_temp.Goals as goal

pub returns-then-eq-clause-calls : goal.returns-then-eq-clause-calls
returns-then-eq-clause-calls g c = called _ _ _ _ not_called refl c.drop_temp.ensures.gives

pub returns-else-eq-clause-calls : goal.returns-else-eq-clause-calls
returns-else-eq-clause-calls g c = not_called

pub returns-then-eq-clause-drops : goal.returns-then-eq-clause-drops
returns-then-eq-clause-drops g c = called _ _ _ _ not_called refl c.drop_temp.ensures.gives

pub returns-else-eq-clause-drops : goal.returns-else-eq-clause-drops
returns-else-eq-clause-drops g c = not_called
