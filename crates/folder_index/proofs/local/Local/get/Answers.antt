use Rattle.std.proofs.Common.{◌∙◌}
use Rattle.folder_index.proofs.Lately.{found_latest, not_latest}
use Rattle.folder_index.proofs.local.Local.get.Goals as goal

pub returns-in-Some : goal.returns-in-Some
returns-in-Some c = found_latest c.args.self.now.latest.records c.requires c.args.self.now.records c.args.sequence c.in-Some.announced.now c.in-Some.ensures

pub returns-in-None : goal.returns-in-None
returns-in-None c = c.get-in-None.ensures ∙ not_latest c.args.self.now.latest.records c.args.self.now.records c.args.sequence c.in-None.ensures
