use Rattle.html_text.proofs.Lemmas.{no_marks}
use Rattle.html_text.proofs.laws.pieces_have_no_marks.Goals as goal

pub returns : goal.returns
returns c = no_marks
