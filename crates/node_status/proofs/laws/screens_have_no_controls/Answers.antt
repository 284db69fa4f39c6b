use Rattle.node_status.proofs.PrintedLemmas.{no_controls}
use Rattle.node_status.proofs.laws.screens_have_no_controls.Goals as goal

pub returns : goal.returns
returns c = no_controls
