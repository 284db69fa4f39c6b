use Rattle.std.proofs.Common.{ap, refl}
use Rattle.folder_calls.specs.Calls.{answer_at, index_value}
use Rattle.peer_reader.proofs.EachLemmas.{asks_one}
use Rattle.peer_reader.proofs.hearing.forget.Goals as goal

pub returns-in-Ok-clause-asks : goal.returns-in-Ok-clause-asks
returns-in-Ok-clause-asks g c = (
  c.in_ok-forget.ensures.folder,
  asks_one c.changes_are_asked_in_order.ensures.one _ _ _ (answer_at index_value c.in_ok-forget.field-0) _ c.in_ok-forget.ensures.changes (ap index_value c.in-Ok.is),
)

pub returns-in-Err-clause-stopped : goal.returns-in-Err-clause-stopped
returns-in-Err-clause-stopped g c =
    let asked = asks_one c.changes_are_asked_in_order.ensures.one _ _ _ (answer_at index_value c.in_ok-forget.field-0) _ c.in_ok-forget.ensures.changes (ap index_value c.in-Err.is) in
    (refl, (_, refl, (c.in_ok-forget.ensures.folder, asked)))
