use Rattle.std.proofs.Common.{rules}
use Rattle.std.specs.Prelude.{is_some}
use Rattle.std.proofs.lemmas.Iterator.{YieldsList-from_slice}
use Rattle.std.proofs.lemmas.Iterator.Consumers.{YieldsList-from_filter, count_from_yields_List}
use Rattle.folder_core.specs.declared.plain.pull.OpenPull.{OpenPull}
use Rattle.folder_core.proofs.plain.open_commits.Goals as goal

pub returns : goal.returns
returns c =
    count_from_yields_List c.filter.result c.count.result c.count.ensures.ran
    (YieldsList-from_filter _ (λ (p : OpenPull). is_some p.ready) (YieldsList-from_slice c.args.pulls.now cc) c.filter.ensures.closure (λ x b q calls. search rules))
