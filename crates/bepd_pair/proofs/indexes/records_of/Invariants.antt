use Rattle.std.proofs.Common.{length}
use Rattle.bepd_pair.proofs.indexes.records_of.Given as goal

abbrev pub decreases-loop-info : goal.decreases-loop-info
decreases-loop-info l = length l.files.items
