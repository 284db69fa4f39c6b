use Rattle.std.proofs.Common.{refl}
use Rattle.folder_core.proofs.AnnouncedIndexes.{get-without_own, get-without_other}
use Rattle.folder_core.proofs.laws.announced.forget_removes.Goals as goal

pub returns-clause-own : goal.returns-clause-own
returns-clause-own c = λ s d n. get-without_own d s.announced n

pub returns-clause-others : goal.returns-clause-others
returns-clause-others c = λ s d e n apart. get-without_other d s.announced e n apart

pub returns-clause-applied : goal.returns-clause-applied
returns-clause-applied c = λ s d. refl
