use Rattle.folder_core.proofs.ChangeRest.{step-me, step-devices, step-locals, step-pulls}
use Rattle.folder_core.proofs.laws.changes.changes_leave_the_rest.Goals as goal

pub returns-clause-device : goal.returns-clause-device
returns-clause-device c = step-me

pub returns-clause-others : goal.returns-clause-others
returns-clause-others c = step-devices

pub returns-clause-pulls : goal.returns-clause-pulls
returns-clause-pulls c = step-pulls

pub returns-clause-locals : goal.returns-clause-locals
returns-clause-locals c = λ s c n folder may. step-locals s folder c n may
