use Rattle.std.proofs.Common.{true, sym, subst}
use Rattle.bep_session.specs.Progress.{IsDrained}
use Rattle.bep_session.proofs.Outcomes.{start_drained}
use Rattle.bep_session.proofs.session.Session.new.Goals as goal

pub invariant_of-result : goal.invariant_of-result
invariant_of-result c = subst IsDrained (sym c.new.ensures) (start_drained true)
