use Rattle.std.proofs.Common.{refl}
use Rattle.folder_core.proofs.AnnouncedIndexes.{get-index_own, get-index_other}
use Rattle.folder_core.proofs.laws.announced.index_full_replaces.Goals as goal

pub returns-clause-own : goal.returns-clause-own
returns-clause-own c = λ s d rs n. get-index_own d rs s.announced n

pub returns-clause-others : goal.returns-clause-others
returns-clause-others c = λ s d e rs n apart. get-index_other d rs s.announced e n apart

pub returns-clause-applied : goal.returns-clause-applied
returns-clause-applied c = λ s d rs. refl
