use Rattle.std.proofs.Common.{refl}
use Rattle.bepd_pair.proofs.actions.act.Goals as goal

pub returns-in-Put-clause-acts : goal.returns-in-Put-clause-acts
returns-in-Put-clause-acts g c = rw c.in-Put.is (record { files = c.put.ensures; others = refl }, refl)
