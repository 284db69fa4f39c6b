use Rattle.std.proofs.Common.{sym}
use Rattle.folder_index.proofs.Indexed.{index_new, moved}
use Rattle.folder_index.proofs.index.Index.new.Goals as goal

pub invariant_of-result : goal.invariant_of-result
invariant_of-result c = moved (sym c.new.ensures) (sym c.new-2.ensures) (index_new c.args.me)
