use Rattle.std.proofs.Common.{◌≡◌, ◌-◌, ◌≤◌, true, false, length}
use Rattle.std.specs.List.{AllWithin}
use Rattle.folder_index.specs.Chunks.{is_lesser}
use Rattle.folder_index.proofs.chunks.count_lesser.Given as goal

abbrev pub invariant-loop-low : goal.invariant-loop-low
invariant-loop-low l = record {
  order : l.low ≤ l.high;
  inside : l.high ≤ length l.groups;
  lesser : AllWithin (λ g. is_lesser l.name g ≡ true) l.groups 0 l.low;
  others : AllWithin (λ g. is_lesser l.name g ≡ false) l.groups l.high (length l.groups);
}

abbrev pub decreases-loop-low : goal.decreases-loop-low
decreases-loop-low l = l.high - l.low
