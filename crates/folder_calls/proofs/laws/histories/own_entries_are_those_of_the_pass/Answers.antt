use Rattle.std.proofs.Common.{refl}
use Rattle.folder_calls.proofs.HistoryEntries.{own-push, own-skip}
use Rattle.folder_calls.proofs.laws.histories.own_entries_are_those_of_the_pass.Goals as goal

pub returns-clause-none : goal.returns-clause-none
returns-clause-none c = λ pass. refl

pub returns-clause-own : goal.returns-clause-own
returns-clause-own c = own-push

pub returns-clause-others : goal.returns-clause-others
returns-clause-others c = own-skip
