use Rattle.std.proofs.Common.{◌≡◌, ◌∙◌, ap, subst, sym}
use Rattle.std.specs.Prelude.{◌⊎◌, Some}
use Rattle.std.specs.FinMap.{get}
use Rattle.folder_core.specs.Announced.{key}
use Rattle.node_resume.specs.Resumed.{Resumed, stored_of}
use Rattle.proof_node.specs.Takeovers.{IsSharedWith}
use Rattle.proof_node.proofs.TakenOver.{came, came-stored, no-pulls, only-shared, shared-stay}
use Rattle.proof_node.proofs.resumed.records_of_shared_devices_stay.Goals as goal

pub returns-clause-no_pulls : goal.returns-clause-no_pulls
returns-clause-no_pulls c = λ config state new place is_left folder r is.
    ap (λ (x : Resumed). x.folder.pulls) (came config state new is_left place folder r is) ∙ no-pulls config new is_left place (stored_of folder.id state.folders)

pub returns-clause-no_others : goal.returns-clause-no_others
returns-clause-no_others c = λ config state new place is_left folder r n d q is e.
    subst (λ (x : Resumed). get x.folder.announced (key n d) ≡ Some q → (d ≡ x.folder.me) ⊎ IsSharedWith config place d) (sym (came config state new is_left place folder r is))
    (only-shared config new is_left place (stored_of folder.id state.folders) n d q) e

pub returns-clause-stay : goal.returns-clause-stay
returns-clause-stay c = λ config state new place is_left folder r f n d is under shared.
    ap (λ (x : Resumed). get x.folder.announced (key n d)) (came-stored config state new is_left place folder r is f under) ∙ shared-stay config place f.folder n d shared

pub returns-clause-rest : goal.returns-clause-rest
returns-clause-rest c = λ config state new place is_left folder r f is under.
    let e = came-stored config state new is_left place folder r is f under in
    (ap (λ (x : Resumed). x.folder.me) e, ap (λ (x : Resumed). x.folder.last) e)
