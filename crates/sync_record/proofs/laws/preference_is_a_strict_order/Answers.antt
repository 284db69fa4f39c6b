use Rattle.sync_record.proofs.PreferenceOrder.{preference_total, irreflexive, asymmetric, transitive, total}
use Rattle.sync_record.proofs.laws.preference_is_a_strict_order.Goals as goal

pub returns-clause-order : goal.returns-clause-order
returns-clause-order c = preference_total

pub returns-clause-irreflexive : goal.returns-clause-irreflexive
returns-clause-irreflexive c = irreflexive

pub returns-clause-asymmetric : goal.returns-clause-asymmetric
returns-clause-asymmetric c = asymmetric

pub returns-clause-transitive : goal.returns-clause-transitive
returns-clause-transitive c = transitive

pub returns-clause-total : goal.returns-clause-total
returns-clause-total c = total
