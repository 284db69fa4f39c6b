use Rattle.folder_core.proofs.ChangeFolders.{empty-folder, step-folder}
use Rattle.folder_core.proofs.laws.changes.changes_keep_folders.Goals as goal

pub returns-clause-empty : goal.returns-clause-empty
returns-clause-empty c = empty-folder

pub returns-clause-change : goal.returns-clause-change
returns-clause-change c = step-folder
