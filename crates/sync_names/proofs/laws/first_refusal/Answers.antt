use Rattle.sync_names.proofs.Lemmas.{first_refusal-told, first_refusal-safe}
use Rattle.sync_names.proofs.laws.first_refusal.Goals as goal

pub returns-clause-first : goal.returns-clause-first
returns-clause-first c = first_refusal-told

pub returns-clause-safe : goal.returns-clause-safe
returns-clause-safe c = first_refusal-safe
