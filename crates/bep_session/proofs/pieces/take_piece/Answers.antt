use Rattle.bep_session.proofs.Outcomes.{cut_first, on_err}
use Rattle.bep_session.proofs.pieces.take_piece.Goals as goal

pub returns-in_err-feed-clause-err : goal.returns-in_err-feed-clause-err
returns-in_err-feed-clause-err c = on_err c.from_residual.result _ (cut_first _ _ _ _)
