use Rattle.sync_blocks.proofs.BlockLists.{list_at, list_past, list_of_none_plain, cuts_joined}
use Rattle.sync_blocks.proofs.laws.block_list_is_by_cuts.Goals as goal

pub returns-clause-each : goal.returns-clause-each
returns-clause-each c = list_at

pub returns-clause-no_other : goal.returns-clause-no_other
returns-clause-no_other c = list_past

pub returns-clause-of_none : goal.returns-clause-of_none
returns-clause-of_none c = list_of_none_plain

pub returns-clause-joined : goal.returns-clause-joined
returns-clause-joined c = cuts_joined
