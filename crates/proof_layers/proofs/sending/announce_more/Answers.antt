use Rattle.std.proofs.Common.{ap}
use Rattle.folder_calls.specs.Calls.{answer_at, index_value}
use Rattle.proof_layers.proofs.SendLemmas.{asked-one}
use Rattle.proof_layers.proofs.sending.announce_more.Goals as goal

pub returns-in-Ok-clause-asks : goal.returns-in-Ok-clause-asks
returns-in-Ok-clause-asks g c =
    asked-one c.changes_are_asked_in_order.ensures.one _ _ _ (answer_at index_value c.in_ok-index_more.field-0) _ c.in_ok-index_more.ensures.changes (ap index_value c.in-Ok.is)
