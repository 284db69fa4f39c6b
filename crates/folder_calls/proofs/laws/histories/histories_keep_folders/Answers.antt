use Rattle.folder_calls.proofs.HistoryEntries.{legal-folder}
use Rattle.folder_calls.proofs.laws.histories.histories_keep_folders.Goals as goal

pub returns : goal.returns
returns c = legal-folder
