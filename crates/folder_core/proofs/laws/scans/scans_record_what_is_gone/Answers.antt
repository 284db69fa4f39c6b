use Rattle.folder_core.proofs.ScanRecords.{gone-number, gone-elsewhere, gone-recorded}
use Rattle.folder_core.proofs.laws.scans.scans_record_what_is_gone.Goals as goal

pub returns-clause-number : goal.returns-clause-number
returns-clause-number c = λ s n expected moment k r there is. gone-number s n expected moment k r is there

pub returns-clause-deletion : goal.returns-clause-deletion
returns-clause-deletion c = gone-recorded

pub returns-clause-others : goal.returns-clause-others
returns-clause-others c = λ s n m expected moment k r folder there is other. gone-elsewhere s n expected moment k r m folder is there other
