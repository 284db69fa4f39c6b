use Rattle.folder_core.specs.declared.finding.FoundContent.TheVariants.{Directory as FoundDirectory, File as FoundFile}
use Rattle.folder_core.proofs.ScanUnchanged.{unchanged-has, has-unchanged}
use Rattle.folder_core.proofs.laws.scans.unchanged_is_what_was_there.Goals as goal

pub returns-clause-directory : goal.returns-clause-directory
returns-clause-directory c = λ s n expected f moment found is.
    let h = unchanged-has s n f moment expected FoundDirectory found is in
    (h.0, h.1, h.2.0, h.2.1)

pub returns-clause-file : goal.returns-clause-file
returns-clause-file c = λ s n expected f size block_size blocks moment found is.
    let h = unchanged-has s n f moment expected (FoundFile size block_size blocks) found is in
    (h.0, h.1, h.2.0, h.2.1, h.2.2, h.2.3)

pub returns-clause-same_directory : goal.returns-clause-same_directory
returns-clause-same_directory c = λ s n f moment r idle found here live kind. has-unchanged s n f moment FoundDirectory r idle here found (live, kind)

pub returns-clause-same_file : goal.returns-clause-same_file
returns-clause-same_file c = λ s n f size block_size blocks moment r idle found here live kind size_is rest.
    has-unchanged s n f moment (FoundFile size block_size blocks) r idle here found (live, kind, size_is, rest)
