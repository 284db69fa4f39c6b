use Rattle.bepd_new.proofs.Cutting.{cut_at}
use Rattle.bepd_new.proofs.purpose.cut.Goals as goal

pub returns : goal.returns
returns c = cut_at c.args.text.now c.split_once.result c.split_once.ensures.cases
