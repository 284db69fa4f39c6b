use Rattle.node_status.proofs.PrintedLemmas.{no_control_bytes}
use Rattle.node_status.proofs.laws.screens_have_no_control_bytes.Goals as goal

pub returns : goal.returns
returns c = no_control_bytes
