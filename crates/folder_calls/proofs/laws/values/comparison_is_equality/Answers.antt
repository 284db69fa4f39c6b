use Rattle.folder_calls.proofs.Same.{entries}
use Rattle.folder_calls.proofs.laws.values.comparison_is_equality.Goals as goal

pub returns : goal.returns
returns c = entries
