use Rattle.std.proofs.Common.{refl}
use Rattle.folder_index.specs.Indexes.{with_record, without_record}
use Rattle.folder_index.proofs.Chosen.{same_best, same_cleared, same_me, same_needs, same_set}
use Rattle.folder_index.proofs.laws.changes_are_of_one_name.Goals as goal

pub returns-clause-set : goal.returns-clause-set
returns-clause-set c = λ s d r n other. same_best n (with_record d r s).announced s.announced (same_set n r.name other s d r)

pub returns-clause-set_needs : goal.returns-clause-set_needs
returns-clause-set_needs c = λ s d r n other. same_needs n (with_record d r s) s refl (same_set n r.name other s d r)

pub returns-clause-clear : goal.returns-clause-clear
returns-clause-clear c = λ s d m n other. same_best n (without_record d m s).announced s.announced (same_cleared n m other s d)

pub returns-clause-clear_needs : goal.returns-clause-clear_needs
returns-clause-clear_needs c = λ s d m n other. same_needs n (without_record d m s) s (same_me n m other s d) (same_cleared n m other s d)
