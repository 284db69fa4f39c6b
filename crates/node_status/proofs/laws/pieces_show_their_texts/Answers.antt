use Rattle.node_status.proofs.PageLemmas.{piece_shows}
use Rattle.node_status.proofs.laws.pieces_show_their_texts.Goals as goal

pub returns : goal.returns
returns c = piece_shows
