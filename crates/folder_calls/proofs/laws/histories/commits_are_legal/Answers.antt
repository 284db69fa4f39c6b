use Rattle.folder_calls.proofs.HistoryCommits.{commits-legal, legal-begin}
use Rattle.folder_calls.proofs.laws.histories.commits_are_legal.Goals as goal

pub returns-clause-finish : goal.returns-clause-finish
returns-clause-finish c = commits-legal

pub returns-clause-begin : goal.returns-clause-begin
returns-clause-begin c = legal-begin
