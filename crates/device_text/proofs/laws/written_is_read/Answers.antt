use Rattle.device_text.proofs.Again.{read_again}
use Rattle.device_text.proofs.laws.written_is_read.Goals as goal

pub returns : goal.returns
returns c = read_again
