use Rattle.std.proofs.Common.{◌∙◌, ap}
use Rattle.std.specs.FinMap.{get}
use Rattle.folder_core.specs.Announced.{key}
use Rattle.node_resume.specs.Resumed.{Resumed}
use Rattle.proof_node.proofs.TakenBack.{back, numbers-back}
use Rattle.proof_node.proofs.TakenOver.{shared-stay}
use Rattle.proof_node.proofs.rounds.folders_come_back.Goals as goal

pub returns-clause-index_ids : goal.returns-clause-index_ids
returns-clause-index_ids c = λ run new fits own. numbers-back run.config run.index_ids run.shares run.records run.kept fits.0 fits.1 own new

pub returns-clause-records : goal.returns-clause-records
returns-clause-records c = λ run new place s r n d fits own es er shared.
    ap (λ (x : Resumed). get x.folder.announced (key n d)) (back run.config run.index_ids run.shares run.records run.kept fits.0 fits.1 own new place s r es er).3
    ∙ shared-stay run.config place s n d shared

pub returns-clause-rest : goal.returns-clause-rest
returns-clause-rest c = λ run new place s r fits own es er.
    let e = (back run.config run.index_ids run.shares run.records run.kept fits.0 fits.1 own new place s r es er).3 in
    (ap (λ (x : Resumed). x.folder.me) e, ap (λ (x : Resumed). x.folder.last) e)
