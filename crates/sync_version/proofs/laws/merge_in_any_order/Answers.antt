use Rattle.sync_version.proofs.Lemmas.{merge_comm, merge_assoc, merge_itself}
use Rattle.sync_version.proofs.laws.merge_in_any_order.Goals as goal

pub returns-clause-commutative : goal.returns-clause-commutative
returns-clause-commutative c = merge_comm

pub returns-clause-associative : goal.returns-clause-associative
returns-clause-associative c = merge_assoc

pub returns-clause-idempotent : goal.returns-clause-idempotent
returns-clause-idempotent c = merge_itself
