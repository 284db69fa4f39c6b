use Rattle.device_text.proofs.Again.{one_identity}
use Rattle.device_text.proofs.laws.read_as_one.Goals as goal

pub returns : goal.returns
returns c = one_identity
