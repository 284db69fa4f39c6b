use Rattle.bep_messages.proofs.Lemmas.{last_wins}
use Rattle.bep_messages.proofs.laws.last_one_wins.Goals as goal

pub returns : goal.returns
returns c = last_wins 0
