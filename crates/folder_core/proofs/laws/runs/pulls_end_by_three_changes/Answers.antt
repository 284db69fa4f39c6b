use Rattle.folder_core.proofs.RunsSay.{ends-from, ends-to}
use Rattle.folder_core.proofs.laws.runs.pulls_end_by_three_changes.Goals as goal

pub returns : goal.returns
returns c = λ c. (ends-to c, ends-from c)
