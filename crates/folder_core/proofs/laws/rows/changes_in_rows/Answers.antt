use Rattle.folder_core.proofs.Rows.{others-stray, sequence-wanting, deletion-needed, deletion-begun, last-counts, deletion-need, deletion-pull, link-pull, scans-lead, local-moved, commit-closed, target-withdrawn, commit-merged, stray, counter-full, sequence-full, sequence-kept}
use Rattle.folder_core.proofs.laws.rows.changes_in_rows.Goals as goal

pub returns-clause-last_of_a_name : goal.returns-clause-last_of_a_name
returns-clause-last_of_a_name c = last-counts

pub returns-clause-deletion_need : goal.returns-clause-deletion_need
returns-clause-deletion_need c = deletion-need

pub returns-clause-deletion_pull : goal.returns-clause-deletion_pull
returns-clause-deletion_pull c = deletion-pull

pub returns-clause-link_pull : goal.returns-clause-link_pull
returns-clause-link_pull c = link-pull

pub returns-clause-scanned : goal.returns-clause-scanned
returns-clause-scanned c = scans-lead

pub returns-clause-moved : goal.returns-clause-moved
returns-clause-moved c = local-moved

pub returns-clause-closed : goal.returns-clause-closed
returns-clause-closed c = commit-closed

pub returns-clause-superseded : goal.returns-clause-superseded
returns-clause-superseded c = target-withdrawn

pub returns-clause-merged : goal.returns-clause-merged
returns-clause-merged c = commit-merged

pub returns-clause-stray : goal.returns-clause-stray
returns-clause-stray c = stray

pub returns-clause-counter : goal.returns-clause-counter
returns-clause-counter c = counter-full

pub returns-clause-last : goal.returns-clause-last
returns-clause-last c = sequence-full

pub returns-clause-last_but_one : goal.returns-clause-last_but_one
returns-clause-last_but_one c = sequence-kept

pub returns-clause-seen_deletion_need : goal.returns-clause-seen_deletion_need
returns-clause-seen_deletion_need c = deletion-needed

pub returns-clause-seen_deletion_pull : goal.returns-clause-seen_deletion_pull
returns-clause-seen_deletion_pull c = deletion-begun

pub returns-clause-other : goal.returns-clause-other
returns-clause-other c = others-stray

pub returns-clause-no_sequence : goal.returns-clause-no_sequence
returns-clause-no_sequence c = sequence-wanting
