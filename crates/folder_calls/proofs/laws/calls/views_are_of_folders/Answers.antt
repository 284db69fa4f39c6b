use Rattle.folder_calls.proofs.HistoryEntries.{end-fits, legal-folder}
use Rattle.folder_calls.proofs.HistoryShared.{view-opened}
use Rattle.folder_calls.proofs.laws.calls.views_are_of_folders.Goals as goal

pub returns-clause-opened : goal.returns-clause-opened
returns-clause-opened c = λ s limit pass folder none given. view-opened s limit pass folder none given

pub returns-clause-legal : goal.returns-clause-legal
returns-clause-legal c = λ v view. (view.no_pull, view.passes, view.given.0, view.given.1, view.legal)

pub returns-clause-folder : goal.returns-clause-folder
returns-clause-folder c = λ v view. legal-folder view.passes v.opening v.seen view.opening view.legal

pub returns-clause-ends : goal.returns-clause-ends
returns-clause-ends c = λ v change view ends. end-fits v.limit v.opening v.seen view.room change ends
