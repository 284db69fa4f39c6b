use Rattle.sync_pull.specs.Copies.{IsRefused}
use Rattle.sync_pull.proofs.OldCopyLemmas.{others-stay}
use Rattle.sync_pull.proofs.laws.what_is_no_older_copy_stays.Goals as goal

pub returns : goal.returns
returns g c most n copy q old new trims other = others-stay (IsRefused g.S.FileStore.gives g.S.FileStore.tree) n copy q old new other most trims
