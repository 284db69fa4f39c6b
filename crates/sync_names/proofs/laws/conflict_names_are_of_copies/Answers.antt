use Rattle.sync_names.proofs.CopyLemmas.{conflict_text-is_copy, copy-is_other}
use Rattle.sync_names.proofs.laws.conflict_names_are_of_copies.Goals as goal

pub returns-clause-made : goal.returns-clause-made
returns-clause-made c = conflict_text-is_copy

pub returns-clause-other : goal.returns-clause-other
returns-clause-other c = copy-is_other
