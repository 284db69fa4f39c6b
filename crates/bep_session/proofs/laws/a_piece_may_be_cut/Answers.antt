use Rattle.std.proofs.Common.{ap}
use Rattle.bep_session.specs.Sessions.{Fed}
use Rattle.bep_session.proofs.Cut.{cut_fed}
use Rattle.bep_session.proofs.laws.a_piece_may_be_cut.Goals as goal

pub returns-clause-events : goal.returns-clause-events
returns-clause-events c = λ v a b moment. ap (λ (f : Fed). f.events) (cut_fed v a b moment)

pub returns-clause-session : goal.returns-clause-session
returns-clause-session c = λ v a b moment. ap (λ (f : Fed). f.session) (cut_fed v a b moment)
