use Rattle.std.proofs.Common.{◌++◌, codes}
use Rattle.sync_names.proofs.made.replaced_component.Goals as goal

pub returns-in_default : goal.returns-in_default
returns-in_default c = λ last e. c.in_default.ensures.cases (last ++ codes ".tmp.tmp") e
