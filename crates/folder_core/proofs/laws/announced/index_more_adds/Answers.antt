use Rattle.std.proofs.Common.{refl}
use Rattle.folder_core.proofs.AnnouncedIndexes.{get-announce_own, get-announce}
use Rattle.folder_core.proofs.laws.announced.index_more_adds.Goals as goal

pub returns-clause-own : goal.returns-clause-own
returns-clause-own c = λ s d rs n. get-announce_own d rs s.announced n

pub returns-clause-others : goal.returns-clause-others
returns-clause-others c = λ s d e rs n apart. get-announce d rs s.announced e n apart

pub returns-clause-applied : goal.returns-clause-applied
returns-clause-applied c = λ s d rs. refl
