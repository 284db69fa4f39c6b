use Rattle.sync_scan.proofs.LookLemmas.{stat_look}
use Rattle.sync_scan.proofs.looking.is_other.Goals as goal

pub returns-in_err-stat-in-Ok-clause-looks : goal.returns-in_err-stat-in-Ok-clause-looks
returns-in_err-stat-in-Ok-clause-looks g c = stat_look g.S.FileStore.gives _ _ _ _ c.in_err-stat-in-Ok.ensures.gives

pub returns-in_ok-stat-in-Ok-clause-looks : goal.returns-in_ok-stat-in-Ok-clause-looks
returns-in_ok-stat-in-Ok-clause-looks g c = stat_look g.S.FileStore.gives _ _ _ _ c.in_ok-stat-in-Ok.ensures.gives
