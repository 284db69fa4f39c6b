use Rattle.std.proofs.Common.{◌∙◌, ap}
use Rattle.std.specs.Prelude.{None, Some, unwrap_or}
use Rattle.proof_node.proofs.SharePlaces.{number-in, number-nowhere}
use Rattle.proof_node.proofs.TakenOver.{stored-nowhere, stored-under}
use Rattle.proof_node.proofs.shares.the_stored_number_is_told.Goals as goal

pub returns-clause-stored : goal.returns-clause-stored
returns-clause-stored c = λ config state peer i n s folder f is under kept.
    number-in config state peer i s is.0 folder (Some f) is.1 (stored-under folder.id state.folders f under) ∙ ap (λ o. unwrap_or o 0) kept

pub returns-clause-none_kept : goal.returns-clause-none_kept
returns-clause-none_kept c = λ config state peer i s folder f is under kept.
    number-in config state peer i s is.0 folder (Some f) is.1 (stored-under folder.id state.folders f under) ∙ ap (λ o. unwrap_or o 0) kept

pub returns-clause-none_stored : goal.returns-clause-none_stored
returns-clause-none_stored c = λ config state peer i s folder is nowhere.
    number-in config state peer i s is.0 folder None is.1 (stored-nowhere folder.id state.folders nowhere)

pub returns-clause-no_folder : goal.returns-clause-no_folder
returns-clause-no_folder c = λ config state peer i s e none. number-nowhere config state peer i s e none
