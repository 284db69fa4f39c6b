use Rattle.std.proofs.Common.{◌≡◌, ◌++◌, map}
use Rattle.std.specs.List.{range_with_len}
use Rattle.sync_scan.specs.Ahead.{cut_at}
use Rattle.sync_scan.proofs.cuts.push_cuts.Given as goal

abbrev pub invariant-loop-i : goal.invariant-loop-i
invariant-loop-i l = l.cuts.items ≡ l.fn.cuts.items ++ map (λ i. cut_at l.start l.size l.block_size i) (range_with_len 0 l.i)
