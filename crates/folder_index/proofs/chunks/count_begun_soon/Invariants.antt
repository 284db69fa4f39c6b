use Rattle.std.proofs.Common.{◌-◌, length}
use Rattle.folder_index.proofs.chunks.count_begun_soon.Given as goal

abbrev pub decreases-loop-end : goal.decreases-loop-end
decreases-loop-end l = length l.chunks - l.end
