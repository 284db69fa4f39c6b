use Rattle.std.proofs.Common.{rules}
use Rattle.std.proofs.lemmas.Fn.{always_returns_same}
use Rattle.folder_core.proofs.PlainRestoreLists.{before, rises-tested}
use Rattle.folder_core.proofs.plain.restore.rises.Goals as goal

pub returns : goal.returns
returns c = rises-tested c.args.entries.now c.is_sorted_by.result (c.is_sorted_by.ensures.cases before (always_returns_same _ _ _ (λ a r f k. search rules)))
