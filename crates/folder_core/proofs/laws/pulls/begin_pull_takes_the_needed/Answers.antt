use Rattle.folder_core.proofs.PullStages.{begin-opens}
use Rattle.std.proofs.Common.{refl, ap}
use Rattle.folder_core.specs.States.{FolderState}
use Rattle.folder_core.specs.declared.answer.Answer.{Answer}
use Rattle.folder_core.specs.Steps.{next_ticket}
use Rattle.folder_core.proofs.PullBegins.{begin-busy, begin-unneeded, begin-unsupported, begin-begun}
use Rattle.folder_core.proofs.PullNumbers.{number-least}
use Rattle.folder_core.proofs.laws.pulls.begin_pull_takes_the_needed.Goals as goal

pub returns-clause-busy : goal.returns-clause-busy
returns-clause-busy c = begin-busy

pub returns-clause-not_needed : goal.returns-clause-not_needed
returns-clause-not_needed c = begin-unneeded

pub returns-clause-unsupported : goal.returns-clause-unsupported
returns-clause-unsupported c = λ s n e free is listed. begin-unsupported s n free e is listed

pub returns-clause-begun : goal.returns-clause-begun
returns-clause-begun c = λ s n e free is listed kind.
    let least = number-least s in (
      next_ticket s n e.1,
      ap (λ (d : Answer × FolderState). d.0) (begin-begun s n free e is listed kind),
      refl,
      refl,
      refl,
      least.0,
      least.1,
      least.2,
    )

pub returns-clause-opened : goal.returns-clause-opened
returns-clause-opened c = begin-opens
