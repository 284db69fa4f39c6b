use Rattle.device_text.proofs.Found.{both}
use Rattle.device_text.proofs.laws.value_is_what_is_read.Goals as goal

pub returns : goal.returns
returns c = both
