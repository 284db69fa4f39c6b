use Rattle.html_text.proofs.Lemmas.{one_text}
use Rattle.html_text.proofs.laws.one_text_is_shown.Goals as goal

pub returns : goal.returns
returns c = one_text
