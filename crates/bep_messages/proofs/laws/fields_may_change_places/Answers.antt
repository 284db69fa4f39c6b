use Rattle.bep_messages.proofs.Lemmas.{exchange}
use Rattle.bep_messages.proofs.laws.fields_may_change_places.Goals as goal

pub returns : goal.returns
returns c = exchange
