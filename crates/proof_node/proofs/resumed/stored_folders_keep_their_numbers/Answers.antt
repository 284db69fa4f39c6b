use Rattle.std.proofs.Common.{◌∙◌, ap, false, true}
use Rattle.node_resume.specs.Resumed.{Resumed, stored_of}
use Rattle.proof_node.proofs.TakenOver.{came, came-new, came-stored, new-number}
use Rattle.proof_node.proofs.resumed.stored_folders_keep_their_numbers.Goals as goal

pub returns-clause-new : goal.returns-clause-new
returns-clause-new c = λ config state new place is_left folder r is nowhere.
    ap (λ (x : Resumed). x.index_id) (came-new config state new is_left place folder r is nowhere)

pub returns-clause-bad_end : goal.returns-clause-bad_end
returns-clause-bad_end c = λ config state new place folder r is.
    ap (λ (x : Resumed). x.index_id) (came config state new true place folder r is) ∙ new-number config new place (stored_of folder.id state.folders)

pub returns-clause-stored : goal.returns-clause-stored
returns-clause-stored c = λ config state new place folder r f is under.
    ap (λ (x : Resumed). x.index_id) (came-stored config state new false place folder r is f under)
