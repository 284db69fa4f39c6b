use Rattle.sync_names.proofs.Lemmas.{utc-shown, utc-only}
use Rattle.sync_names.proofs.laws.utc_is_shown.Goals as goal

pub returns-clause-shown : goal.returns-clause-shown
returns-clause-shown c = utc-shown

pub returns-clause-only : goal.returns-clause-only
returns-clause-only c = utc-only
