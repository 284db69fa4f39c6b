use Rattle.std.proofs.Common.{ap}
use Rattle.sync_record.proofs.Kept.{kept, broken_is, other_is, valid, whole}
use Rattle.sync_record.proofs.laws.only_well_formed_files_have_blocks.Goals as goal

pub returns-clause-kept : goal.returns-clause-kept
returns-clause-kept c = kept

pub returns-clause-broken : goal.returns-clause-broken
returns-clause-broken c = λ info l f. (ap (λ r. r.invalid) (broken_is info l f), ap (λ r. r.blocks) (broken_is info l f))

pub returns-clause-no_file : goal.returns-clause-no_file
returns-clause-no_file c = λ info l. ap (λ r. r.blocks) (other_is info l)

pub returns-clause-valid : goal.returns-clause-valid
returns-clause-valid c = valid

pub returns-clause-whole : goal.returns-clause-whole
returns-clause-whole c = whole
