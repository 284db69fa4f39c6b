use Rattle.proof_node.proofs.SharePlaces.{listed-share, share-in-order, share-listed}
use Rattle.proof_node.proofs.shares.each_folder_is_shared_once.Goals as goal

pub returns-clause-each : goal.returns-clause-each
returns-clause-each c = λ config state peer place. (share-listed config state peer place, listed-share config state peer place)

pub returns-clause-in_order : goal.returns-clause-in_order
returns-clause-in_order c = λ config state peer i j s t lt e f. share-in-order config state peer i j s t lt e f
