use Rattle.proof_node.proofs.TakenBack.{kept-back}
use Rattle.proof_node.proofs.rounds.kept_numbers_come_back.Goals as goal

pub returns : goal.returns
returns c = λ run old i peer numbers fits own devices at inside es ek long.
    kept-back run.config run.index_ids run.shares run.records run.kept fits.0 fits.1 own devices old i peer numbers at inside es ek long
