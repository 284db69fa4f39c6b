use Rattle.folder_core.proofs.ChangeNumbers.{step-numbered, step-new}
use Rattle.folder_core.proofs.ChangeSequences.{step-taken, step-kept, step-fits}
use Rattle.folder_core.proofs.laws.changes.sequences_stay_distinct.Goals as goal

pub returns-clause-numbered : goal.returns-clause-numbered
returns-clause-numbered c = step-numbered

pub returns-clause-taken : goal.returns-clause-taken
returns-clause-taken c = step-taken

pub returns-clause-kept : goal.returns-clause-kept
returns-clause-kept c = step-kept

pub returns-clause-fits : goal.returns-clause-fits
returns-clause-fits c = step-fits

pub returns-clause-new : goal.returns-clause-new
returns-clause-new c = λ s c n r may. step-new s c may n r
