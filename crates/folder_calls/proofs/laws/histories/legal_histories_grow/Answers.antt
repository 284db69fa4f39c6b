use Rattle.folder_calls.proofs.HistoryEntries.{legal-front, legal-push, state-push, allowed-before, allowed-after}
use Rattle.std.proofs.Common.{refl}
use Rattle.folder_calls.proofs.laws.histories.legal_histories_grow.Goals as goal

pub returns-clause-none : goal.returns-clause-none
returns-clause-none c = λ passes s. (tt, refl)

pub returns-clause-one_more : goal.returns-clause-one_more
returns-clause-one_more c = λ passes s es e. (
  λ legal. let r = legal-front passes s es e legal in
      (r.0, r.1.given.0, r.1.given.1, allowed-before s es e.change r.1.allowed, r.1.answered, r.1.accepted),
  λ r. legal-push passes s es e r.0 (record { given = (r.1, r.2); allowed = allowed-after s es e.change r.3; answered = r.4; accepted = r.5 }),
)

pub returns-clause-leads : goal.returns-clause-leads
returns-clause-leads c = state-push

pub returns-clause-replays : goal.returns-clause-replays
returns-clause-replays c = λ passes s t es. (λ r. r, λ r. r)
