use Rattle.std.proofs.Common.{ap}
use Rattle.node_resume.specs.Resumed.{Resumed}
use Rattle.proof_node.proofs.TakenOver.{came-new, counted}
use Rattle.proof_node.proofs.resumed.a_run_begins_with_its_folders.Goals as goal

pub returns-clause-count : goal.returns-clause-count
returns-clause-count c = λ config state new is_left. counted config state new is_left

pub returns-clause-nothing_stored : goal.returns-clause-nothing_stored
returns-clause-nothing_stored c = λ config state new place is_left folder r is nowhere.
    ap (λ (x : Resumed). x.folder) (came-new config state new is_left place folder r is nowhere)
