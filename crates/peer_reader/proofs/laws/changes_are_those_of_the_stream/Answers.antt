use Rattle.std.proofs.Common.{ap}
use Rattle.peer_reader.proofs.StreamLemmas.{run_is_stream, same_effect}
use Rattle.peer_reader.specs.Effects.{Effect}
use Rattle.peer_reader.proofs.laws.changes_are_those_of_the_stream.Goals as goal

pub returns-clause-made : goal.returns-clause-made
returns-clause-made c = λ moment acts peer fs.
    ap (λ (e : Effect). e.made) (same_effect peer fs _ _ (run_is_stream c.a_piece_may_be_cut.ensures.events c.a_piece_may_be_cut.ensures.session moment acts))

pub returns-clause-folders : goal.returns-clause-folders
returns-clause-folders c = λ moment acts peer fs.
    ap (λ (e : Effect). e.folders) (same_effect peer fs _ _ (run_is_stream c.a_piece_may_be_cut.ensures.events c.a_piece_may_be_cut.ensures.session moment acts))

pub returns-clause-count : goal.returns-clause-count
returns-clause-count c = λ moment acts peer fs counts.
    ap (λ (e : Effect). e.count counts) (same_effect peer fs _ _ (run_is_stream c.a_piece_may_be_cut.ensures.events c.a_piece_may_be_cut.ensures.session moment acts))
