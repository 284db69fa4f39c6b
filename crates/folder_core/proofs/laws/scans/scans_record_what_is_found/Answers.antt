use Rattle.folder_core.proofs.ScanRecords.{found-number, found-elsewhere, file-recorded, directory-recorded}
use Rattle.folder_core.proofs.laws.scans.scans_record_what_is_found.Goals as goal

pub returns-clause-number : goal.returns-clause-number
returns-clause-number c = found-number

pub returns-clause-file : goal.returns-clause-file
returns-clause-file c = file-recorded

pub returns-clause-directory : goal.returns-clause-directory
returns-clause-directory c = directory-recorded

pub returns-clause-others : goal.returns-clause-others
returns-clause-others c = λ s n m expected f moment k is other. found-elsewhere s n expected f moment k m is other
